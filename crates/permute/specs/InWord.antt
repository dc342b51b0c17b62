-- The bit move within a word. Assumes nothing.
use Rattle.std.specs.Prelude.{ℕ, ◌+◌, ◌*◌, ◌/◌, ◌%◌}
use Rattle.baksheesh.specs.Baksheesh.{from, to}

-- the bit move takes a block's lowest word to the lowest byte of each word. With these four bytes as one word:
-- where its bit i comes from, and where bit i goes
abbrev pub from_in_word : ℕ → ℕ
from_in_word i = from (32 * (i / 8) + i % 8)

abbrev pub to_in_word : ℕ → ℕ
to_in_word i = 8 * (to i / 32) + to i % 32
