-- `put_number` meets its contract. The bytes from i on have been written. Assumes nothing.
use Rattle.prelude.proofs.{◌≡◌, ◌+◌, ◌-◌, ◌/◌, ◌^◌, ◌≤◌}
use Rattle.blocks.specs.Bytes.{big_endian, put}
use Rattle.blocks.proofs.put_number.Given as goal

abbrev pub invariant-loop-i : goal.invariant-loop-i
invariant-loop-i l = (l.i ≤ l.w) × (l.rest ≡ l.x / 256 ^ (l.w - l.i)) × (l.out ≡ put (l.at + l.i) (big_endian (l.w - l.i) l.x) l.initial.out)
