-- `put_digits` meets its contract. The loop has written the digits of the first i bytes. Assumes nothing.
use Rattle.prelude.proofs.{◌≡◌, take}
use Rattle.blocks.specs.Bytes.{put}
use Rattle.hex_digits.specs.Hex.{hex_of}
use Rattle.hex_digits.proofs.put_digits.Given as goal

abbrev pub invariant-loop-i : goal.invariant-loop-i
invariant-loop-i l = l.out ≡ put 0 (hex_of (take l.i l.src)) l.initial.out
