-- `number_at` meets its contract. The loop has read the first i bytes. Assumes nothing.
use Rattle.prelude.proofs.{◌≡◌}
use Rattle.blocks.specs.Bytes.{value, part}
use Rattle.blocks.proofs.number_at.Given as goal

abbrev pub invariant-loop-byte : goal.invariant-loop-byte
invariant-loop-byte l = l.number ≡ value (part l.at l.byte-index l.s)
