-- `shift` meets its contract. The loop has written the first i bytes. Assumes nothing.
use Rattle.prelude.proofs.{◌≡◌, ℕ, ◌<◌, length, get_or}
use Rattle.modes.specs.Doubling.{shifted_byte}
use Rattle.modes.proofs.shift.Given as goal

abbrev pub invariant-loop-i : goal.invariant-loop-i
invariant-loop-i l = record {
  size : length l.r ≡ 16;
  written : (k : ℕ) → k < l.i → get_or l.r k 0 ≡ shifted_byte l.fn.b k;
}
