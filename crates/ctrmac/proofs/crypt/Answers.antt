-- `crypt` meets its contract. The loop has written the first j blocks. Assumes nothing.
use Rattle.prelude.proofs.{◌≡◌, ap, List, ℕ, arith, length}
use Rattle.blocks.specs.Bytes.{block_count}
use Rattle.baksheesh.specs.Baksheesh.{encrypt}
use Rattle.baksheesh.proofs.Inverse.{encrypt-block}
use Rattle.words.specs.Words.{unpacked}
use Rattle.words.proofs.Words.{unpacked-block}
use Rattle.modes.proofs.Pieces.{piece-length}
use Rattle.modes.proofs.Stream.{written_none, written-more, written_all}
use Rattle.links.specs.Record.{counter_block}
use Rattle.links.proofs.Record.{counter-block}
use Rattle.ctrmac.proofs.crypt.Goals as goal

-- each output block is a whole one
sized : (key : List ℕ) (n s j : ℕ) → length (encrypt (unpacked key) (counter_block n s j)) ≡ 16
sized key n s j = (encrypt-block (unpacked key) _ (unpacked-block key) (counter-block n s j)).size

pub loop-j-init : goal.loop-j-init
loop-j-init c = written_none _ _ _ _ _

pub put_xor-requires : goal.put_xor-requires
put_xor-requires c =
    let count : c.div_ceil-j-end.result ≡ block_count (length c.text.inside.bytes.now) = omega (arith, c.div_ceil-j-end.ensures) in
    let same = ap length c.text.view_is in
    (omega arith, omega (arith, piece-length c.loop-j.j c.text.inside.bytes.now))

pub loop-j-preserved : goal.loop-j-preserved
loop-j-preserved c =
    let a = c.args in
    let l = c.loop-j in
    let count : c.div_ceil-j-end.result ≡ block_count (length c.text.inside.bytes.now) = omega (arith, c.div_ceil-j-end.ensures) in
    let same = ap length c.text.view_is in
    let more = written-more (encrypt (unpacked c.pack-key.result)) (counter_block a.nonce.number a.nonce.sequence) c.text.inside.bytes.now a.at
    a.out.now (λ j h. sized c.pack-key.result a.nonce.number a.nonce.sequence j) (omega arith) l.j (omega arith) in
    cc

pub returns : goal.returns
returns c =
    let a = c.args in
    let count : c.loop-j.j ≡ block_count (length c.text.inside.bytes.now) = omega (arith, c.div_ceil-j-end.ensures) in
    let all = written_all (encrypt (unpacked c.pack-key.result)) (counter_block a.nonce.number a.nonce.sequence) c.text.inside.bytes.now a.at
    a.out.now c.loop-j.j count in
    cc
