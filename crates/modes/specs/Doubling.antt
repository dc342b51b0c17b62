-- CMAC's doubling as arithmetic on bytes, the same steps for every block. Assumes nothing.
use Rattle.std.specs.Prelude.{List, [], ◌∷◌, ◌++◌, ℕ, ◌+◌, ◌*◌, ◌/◌, ◌%◌, get_or, replicate}
use Rattle.std.specs.Int.Bits.{bit_xor}
use Rattle.blocks.specs.Bytes.{◌⊕◌, tab}

-- byte k shifted left by one bit, with the highest bit of the next one; behind the last there is none
abbrev pub shifted_byte : List ℕ → ℕ → ℕ
shifted_byte b k = bit_xor (get_or b k 0 * 2 % 256) (get_or b (k + 1) 0 / 128)

-- the block's highest bit, 0 or 1, times 135, in the last byte
abbrev pub product : List ℕ → List ℕ
product b = replicate 15 0 ++ (get_or b 0 0 / 128 * 135 ∷ [])

unfoldable pub doubled_bytes : List ℕ → List ℕ
doubled_bytes b = tab 16 (shifted_byte b) ⊕ product b
