-- `perm_words` meets its contract: one test of what its swaps do to each bit. Assumes nothing.
use Rattle.bits.proofs.XorOfBits.{alone, swapped, moved}
use Rattle.words.proofs.steps.perm_words.Goals as goal

pub returns : goal.returns
returns c =
    let x₁ = swapped _ _ (alone tt c.ranges.x.fits) c.swapmove-x1.ensures in
    let x₃ = swapped _ _ (swapped _ _ x₁ c.swapmove-x2.ensures) c.swapmove-x3.ensures in
    moved (swapped _ _ x₃ c.swapmove.ensures) (λ _. 0) _ tt
