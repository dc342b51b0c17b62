-- `read_full` stays inside its buffer. Assumes nothing.
use Rattle.prelude.proofs.{◌≤◌}
use Rattle.block.proofs.read_full.Given as goal

abbrev pub invariant-loop : goal.invariant-loop
invariant-loop g l = l.n ≤ 33
