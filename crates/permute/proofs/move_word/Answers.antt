-- `move_word` meets its contract: one test of what its swaps do to each bit. Assumes nothing.
use Rattle.prelude.proofs.{◌≡◌, ◌∙◌, arith}
use Rattle.bits.proofs.XorOfBits.{alone, equal, moved}
use Rattle.permute.specs.InWord.{from_in_word}
use Rattle.permute.proofs.Swaps.{row, swap-more, all-swapped}
use Rattle.permute.proofs.move_word.Goals as goal

pub loop-mask-preserved : goal.loop-mask-preserved
loop-mask-preserved c = swap-more _ _ _ c.loop-mask-test.true c.swapmove-y.ensures ∙ c.loop-mask.invariant

pub returns : goal.returns
returns c =
    let done : c.loop-mask.mask-index ≡ 5 = omega arith in
    moved (equal (all-swapped row (alone tt c.ranges.x.fits)) (rw done at c.loop-mask.invariant)) (λ _. 0) from_in_word tt
