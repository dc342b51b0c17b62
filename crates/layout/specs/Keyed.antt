-- When the bytes of a link say one that counts as keyed, in numbers alone. Assumes nothing.
use Rattle.std.specs.Prelude.{◌≡◌, List, ℕ, ◌≤◌, length, get_or}
use Rattle.blocks.specs.Bytes.{value, part}

-- of a kind of link that has `size` bytes, the width at p: the first byte is 1, the width is 0 or 1, and where it is 0 the last number, or
-- the highest, which stands in bytes 5 to 12, has 32 bits at most
pub record SaysKeyed (size p : ℕ) (b : List ℕ) : Type 0 where
  pub long : length b ≡ size
  pub keyed : get_or b 0 0 ≡ 1
  pub width : get_or b p 0 ≤ 1
  pub number : get_or b p 0 ≡ 0 → value (part 5 8 b) ≤ 4294967295
