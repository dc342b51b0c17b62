-- Blocks by their bits: byte 0 holds bits 127 to 120; cell c is bits 4c to 4c + 3. Assumes nothing.
use Rattle.std.specs.Prelude.{Bool, List, [], ◌∷◌, ℕ, zero, suc, ◌+◌, ◌-◌, ◌*◌, ◌/◌, ◌%◌, get_or}
use Rattle.bits.specs.Bit.{bit, number}

-- n bytes, highest first, whose bit i is f i
abbrev pub bytes_of : ℕ → (ℕ → Bool) → List ℕ
bytes_of zero f = []
bytes_of (suc n) f = number 8 (λ i. f (8 * n + i)) ∷ bytes_of n f

-- the block whose bit i is f i
unfoldable pub block_of : (ℕ → Bool) → List ℕ
block_of f = bytes_of 16 f

-- bit i of a block
unfoldable pub bit_at : List ℕ → ℕ → Bool
bit_at b i = bit (get_or b (15 - i / 8) 0) (i % 8)

-- the block whose cell c has g c j for its bit j
unfoldable pub cells : (ℕ → ℕ → Bool) → List ℕ
cells g = block_of (λ i. g (i / 4) (i % 4))

-- each place i gets bit (p i)
unfoldable pub rearranged : (ℕ → ℕ) → List ℕ → List ℕ
rearranged p b = block_of (λ i. bit_at b (p i))

-- each cell, of bits x₀, x₁, x₂, x₃ from the lowest, gets f j x₀ x₁ x₂ x₃ for its bit j
unfoldable pub each_cell : (ℕ → Bool → Bool → Bool → Bool → Bool) → List ℕ → List ℕ
each_cell f b = cells (λ c j. f j (bit_at b (4 * c + 0)) (bit_at b (4 * c + 1)) (bit_at b (4 * c + 2)) (bit_at b (4 * c + 3)))
