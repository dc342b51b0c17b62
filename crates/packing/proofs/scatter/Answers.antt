-- `scatter` meets its contract: one test of where each bit comes from. Assumes nothing.
use Rattle.prelude.proofs.{sym, ap, ◌∙◌, [], ◌∷◌, ℕ, ◌+◌, ◌%◌, arith, div-one}
use Rattle.bits.proofs.XorOfBits.{alone, swapped, moved}
use Rattle.packing.specs.Bytes.{reversed, scattered}
use Rattle.packing.proofs.Bytes.{byte_at}
use Rattle.packing.proofs.scatter.Goals as goal

pub returns : goal.returns
unfolding scattered
returns c =
    let y : ℕ = c.swapmove.result in
    let flips = moved (swapped _ _ (alone tt c.ranges.x.fits) c.swapmove.ensures) (λ _. 0) (reversed 3) tt in
    c.to_be_bytes.ensures
    ∙ λ i.
    byte_at y 24 _ (λ j h. flips (24 + j) (omega arith)) i
    ∷ byte_at y 16 _ (λ j h. flips (16 + j) (omega arith)) i
    ∷ byte_at y 8 _ (λ j h. flips (8 + j) (omega arith)) i
    ∷ (sym (ap (λ (z : ℕ). z % 256) (div-one y)) ∙ byte_at y 0 _ (λ j h. flips (0 + j) (omega arith))) i
    ∷ []
