-- Worked values of what the program prints: for the key and the block of the last published vector, and for inputs of other lengths.
-- Assumes nothing.
use Rattle.prelude.proofs.{◌≡◌, refl, List, [], ◌∷◌, ◌++◌, ℕ, replicate}
use Rattle.bits.specs.Bit.{bit}
use Rattle.blocks.specs.Bytes.{◌⊕◌, tab, big_endian}
use Rattle.blocks.specs.Bits.{block_of, bit_at, cells, rearranged, each_cell}
use Rattle.baksheesh.specs.Baksheesh.{constant, after, encrypt}
use Rattle.hex_digits.specs.Hex.{glyph, hex_of}
use Rattle.block.specs.Printed.{printed}

-- fc7e61fe e3d58730 8ca7bc59 4ebf3244 in ASCII, without a space, and a line feed
pub prints-digits : printed (big_endian 16 0x5920effb52bc61e33a98425321e76915 ++ big_endian 16 0xe6517531abf63f3d7805e126943a081c)
    ≡ big_endian 33 0x66633765363166656533643538373330386361376263353934656266333234340a
unfolding printed bit ◌⊕◌ tab big_endian block_of bit_at cells rearranged each_cell constant after encrypt glyph hex_of
prints-digits = refl

-- length, and a line feed
abbrev line : List ℕ
line = 0x6c ∷ 0x65 ∷ 0x6e ∷ 0x67 ∷ 0x74 ∷ 0x68 ∷ 0x0a ∷ []

pub prints-length : (printed [] ≡ line) × (printed (replicate 31 0) ≡ line) × (printed (replicate 33 0) ≡ line)
unfolding printed
prints-length = (refl, refl, refl)
