-- `put_ciphertext` meets its contract. The loop has written the first j blocks, each under a whole block. Assumes nothing.
use Rattle.prelude.proofs.{◌≡◌, sym, ap, ◌∙◌, List, ℕ, ◌+◌, ◌*◌, ◌<◌, arith, length, rules}
use Rattle.std.proofs.Common.{below_more}
use Rattle.blocks.specs.Bytes.{◌⊕◌, put, block_count, piece}
use Rattle.modes.proofs.{Pieces.piece-length, Ctr.ctr-length, Ctr.ctr-same, Stream.written_none, Stream.written-more, Stream.written_all}
use Rattle.masking.specs.Shares.{join}
use Rattle.inputs.specs.Inputs.{out_at}
use Rattle.outgoing.proofs.Stream.{whole, whole-length, whole-block}
use Rattle.outgoing.proofs.put_ciphertext.Goals as goal

pub loop-j-init : goal.loop-j-init
loop-j-init c = record { wrote = written_none whole _ _ _ _; sized = λ k h. absurd (omega arith) }

pub put_xor-requires : goal.put_xor-requires
put_xor-requires c =
    let m = c.message.inside.bytes.now in
    (omega arith, omega (arith, ap length c.message.view_is, piece-length c.loop-j.j m))

pub loop-j-preserved : goal.loop-j-preserved
loop-j-preserved c =
    let l = c.loop-j in
    let a = c.args in
    let m = a.message.now in
    let out : ℕ → List ℕ = λ j. join (out_at j a.outs.now) in
    let view = c.message.view_is in
    let more : l.j < block_count (length m) = omega (arith, ap length view) in
    let size : length (out l.j) ≡ 16 = ap length (sym c.joined.ensures) ∙ search rules in
    let key = c.joined.ensures ∙ sym (whole-block (out l.j) size) in
    record {
      wrote = c.put_xor.ensures
          ∙ (λ i. put (a.at + 16 * l.j) (piece l.j (view i) ⊕ key i) (l.invariant.wrote i))
          ∙ written-more whole out m a.at a.out.now (λ j h. whole-length (out j)) (omega arith) l.j more;
      sized = below_more _ _ l.invariant.sized size;
    }

pub returns : goal.returns
returns c =
    let l = c.loop-j in
    let a = c.args in
    let m = a.message.now in
    let out : ℕ → List ℕ = λ j. join (out_at j a.outs.now) in
    let all : l.j ≡ block_count (length m) = omega (arith, ap length c.message.view_is) in
    let sized : (j : ℕ) → j < block_count (length m) → length (out j) ≡ 16 = λ j h. l.invariant.sized j (omega arith) in
    record {
      written = l.invariant.wrote
          ∙ written_all whole out m a.at a.out.now l.j all
          ∙ ap (λ (z : List ℕ). put a.at z a.out.now) (ctr-same whole (λ b. b) out out m (λ j h. whole-block (out j) (sized j h)));
      size = ctr-length (λ b. b) out m sized;
    }
