-- `put_values` meets its contract: a number behind the other, and what the last two say of an offset. Assumes nothing.
use Rattle.prelude.proofs.{◌≡◌, ◌∙◌, ◌++◌, ◌^◌, arith, to_z-of_z, w32, SFits, mod-eq_of_lt, pos, rules}
use Rattle.std.proofs.lemmas.Int.{ints}
use Rattle.std.specs.Prelude.{unwrap_or, is_some}
use Rattle.std.specs.Int.{from_bool}
use Rattle.blocks.specs.Bytes.{put, big_endian}
use Rattle.body.specs.Signed.{residue}
use Rattle.body.proofs.Writing.{three-and, offset-parts}
use Rattle.reading.proofs.put_values.Goals as goal

pub returns : goal.returns
returns c =
    let m = c.args.mark in
    let f : SFits w32 c.unwrap_or.result = search rules in
    let given : c.from-2.result ≡ from_bool (is_some m.offset) = grind arith in
    let minutes : c.from-3.result ≡ residue (2 ^ 32) (unwrap_or m.offset (pos 0)) = grind (arith, ints, to_z-of_z, mod-eq_of_lt) in
    let said = offset-parts m.offset _ _ given minutes in
    three-and 8 4 1 _ _ _ _ _ (omega arith) c.put_number.ensures c.put_number-2.ensures c.put_number-3.ensures c.put_number-4.ensures
    ∙ λ i. put 0 (big_endian 8 m.seconds ++ (big_endian 4 (c.from.ensures i) ++ said i)) c.args.out.now
