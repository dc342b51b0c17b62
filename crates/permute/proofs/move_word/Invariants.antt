-- `move_word`: the swaps that are left make of the word what all of them make of x. Assumes nothing.
use Rattle.prelude.proofs.{◌≡◌, drop}
use Rattle.permute.proofs.Swaps.{swaps}
use Rattle.permute.proofs.move_word.Given as goal

abbrev pub invariant-loop-mask : goal.invariant-loop-mask
invariant-loop-mask l = swaps (drop l.mask-index l.mask-items) l.y ≡ swaps l.mask-items l.x
