-- The packed form of a block: four words of 32 bits; bit c of word j is bit j of cell c. Assumes nothing.
use Rattle.std.specs.Prelude.{List, ℕ, get_or}
use Rattle.bits.specs.Bit.{bit}
use Rattle.blocks.specs.Bits.{cells}

-- the block that four words say
unfoldable pub unpacked : List ℕ → List ℕ
unpacked s = cells (λ c j. bit (get_or s j 0) c)
