-- `same_at` meets its contract. The loop has compared the first i bytes. Assumes nothing.
use Rattle.prelude.proofs.{◌≡◌}
use Rattle.blocks.proofs.Same.{compared}
use Rattle.blocks.proofs.same_at.Given as goal

abbrev pub invariant-loop-i : goal.invariant-loop-i
invariant-loop-i l = l.same ≡ compared l.block l.s l.at l.i
