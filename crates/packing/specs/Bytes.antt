-- The way from bytes to words: four bytes in a word, bits in the other order. Assumes nothing.
use Rattle.std.specs.Prelude.{List, ℕ, ◌+◌, ◌-◌, ◌*◌, ◌/◌, ◌^◌}
use Rattle.bits.specs.Bit.{odd, bit, number}
use Rattle.blocks.specs.Bits.{bytes_of}

-- i with its w lowest bits in the other order
abbrev pub reversed : ℕ → ℕ → ℕ
reversed w i = 2 ^ w * (i / 2 ^ w) + number w (λ j. odd (i / 2 ^ (w - 1 - j)))

-- the four bytes in a word, highest first: bit i of a byte is at place reversed 3 i
unfoldable pub scattered : ℕ → List ℕ
scattered x = bytes_of 4 (λ i. bit x (reversed 3 i))
