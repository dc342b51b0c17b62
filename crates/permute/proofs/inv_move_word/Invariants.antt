-- `inv_move_word`: the swaps that are left make of the word what all of them make of x. Assumes nothing.
use Rattle.prelude.proofs.{◌≡◌}
use Rattle.std.specs.Prelude.{reverse}
use Rattle.permute.proofs.Swaps.{swaps}
use Rattle.permute.proofs.inv_move_word.Given as goal

abbrev pub invariant-loop-mask : goal.invariant-loop-mask
invariant-loop-mask l =
    swaps (reverse l.mask-iterator.iter.rest.now) l.y ≡ swaps (reverse l.initial.mask-iterator.iter.rest.now) l.x
