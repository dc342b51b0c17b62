-- `transpose` meets its contract: a test for each word of where its bits come from. Assumes nothing.
use Rattle.prelude.proofs.{rules}
use Rattle.bits.proofs.XorOfBits.{xored, masked, shl, shr}
use Rattle.words.proofs.Moves.{inputs, rearranges}
use Rattle.packing.proofs.transpose.Goals as goal

pub returns : goal.returns
returns c =
    let w = inputs c.args.w (λ j. search rules) in
    let t = masked (xored (shr (w 0) 4) (w 1)) _ in
    let u = masked (xored (shr (w 2) 4) (w 3)) _ in
    let x₀ = xored (w 0) (shl t 4) in
    let x₁ = xored (w 1) t in
    let x₂ = xored (w 2) (shl u 4) in
    let x₃ = xored (w 3) u in
    let v = masked (xored (shr x₀ 2) x₂) _ in
    let y = masked (xored (shr x₁ 2) x₃) _ in
    rearranges _ (xored x₀ (shl v 2)) (xored x₁ (shl y 2)) (xored x₂ v) (xored x₃ y) tt tt tt tt tt
