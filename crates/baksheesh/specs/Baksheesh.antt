-- The block cipher BAKSHEESH, each step given by the bits of its result. Assumes nothing.
use Rattle.std.specs.Prelude.{Bool, true, false, ◌&&◌, cond, List, [], ◌∷◌, ℕ, zero, suc, ◌+◌, ◌*◌, ◌/◌, ◌%◌, eqb, get_or}
use Rattle.bits.specs.Bit.{bit, number, ◌⊻◌}
use Rattle.blocks.specs.Bytes.{◌⊕◌}
use Rattle.blocks.specs.Bits.{block_of, each_cell, rearranged}

abbrev pub rounds : ℕ
rounds = 35

-- ---- SubCells

-- the S-box as printed, and its inverse
abbrev pub sbox_table : List ℕ
sbox_table = 0x3 ∷ 0x0 ∷ 0x6 ∷ 0xd ∷ 0xb ∷ 0x5 ∷ 0x8 ∷ 0xe ∷ 0xc ∷ 0xf ∷ 0x9 ∷ 0x2 ∷ 0x4 ∷ 0xa ∷ 0x7 ∷ 0x1 ∷ []

abbrev pub inv_sbox_table : List ℕ
inv_sbox_table = 0x1 ∷ 0xf ∷ 0xb ∷ 0x0 ∷ 0xc ∷ 0x5 ∷ 0x2 ∷ 0xe ∷ 0x6 ∷ 0xa ∷ 0xd ∷ 0x4 ∷ 0x8 ∷ 0x3 ∷ 0x7 ∷ 0x9 ∷ []

-- the bit form: bit j of the cell that the S-box makes of the cell with bits x₀, x₁, x₂, x₃, x₀ lowest
abbrev pub sbox : ℕ → Bool → Bool → Bool → Bool → Bool
sbox zero x₀ x₁ x₂ x₃ = (x₀ && x₂) ⊻ x₀ ⊻ x₁ ⊻ x₃ ⊻ true
sbox (suc zero) x₀ x₁ x₂ x₃ = x₀ ⊻ (x₁ && x₂) ⊻ x₃ ⊻ true
sbox (suc (suc zero)) x₀ x₁ x₂ x₃ = (x₀ && x₂) ⊻ (x₁ && x₂) ⊻ x₁ ⊻ x₃
sbox (suc (suc (suc j))) x₀ x₁ x₂ x₃ = (x₀ && x₁) ⊻ (x₀ && x₂) ⊻ x₂ ⊻ x₃

-- the inverse's bit form
abbrev pub inv_sbox : ℕ → Bool → Bool → Bool → Bool → Bool
inv_sbox zero y₀ y₁ y₂ y₃ = ((y₀ ⊻ y₃) && (y₁ ⊻ y₂)) ⊻ y₂ ⊻ y₃ ⊻ true
inv_sbox (suc zero) y₀ y₁ y₂ y₃ = (y₀ && y₂) ⊻ (y₃ && (y₀ ⊻ y₂)) ⊻ y₀ ⊻ y₁ ⊻ y₃
inv_sbox (suc (suc zero)) y₀ y₁ y₂ y₃ = (y₀ && (y₁ ⊻ y₂)) ⊻ y₀ ⊻ (y₁ && y₂) ⊻ y₂ ⊻ y₃
inv_sbox (suc (suc (suc j))) y₀ y₁ y₂ y₃ = y₀ ⊻ y₁ ⊻ y₂

-- the cell that a bit form makes of the cell x
abbrev pub cell_of : (ℕ → Bool → Bool → Bool → Bool → Bool) → ℕ → ℕ
cell_of f x = number 4 (λ j. f j (bit x 0) (bit x 1) (bit x 2) (bit x 3))

abbrev pub sub_cells : List ℕ → List ℕ
sub_cells = each_cell sbox

abbrev pub inv_sub_cells : List ℕ → List ℕ
inv_sub_cells = each_cell inv_sbox

-- ---- PermBits

-- the bit move as printed: bit i goes to the place that stands at index i
abbrev pub perm_table : List ℕ
perm_table =
    0 ∷ 33 ∷ 66 ∷ 99 ∷ 96 ∷ 1 ∷ 34 ∷ 67 ∷ 64 ∷ 97 ∷ 2 ∷ 35 ∷ 32 ∷ 65 ∷ 98 ∷ 3
    ∷ 4 ∷ 37 ∷ 70 ∷ 103 ∷ 100 ∷ 5 ∷ 38 ∷ 71 ∷ 68 ∷ 101 ∷ 6 ∷ 39 ∷ 36 ∷ 69 ∷ 102 ∷ 7
    ∷ 8 ∷ 41 ∷ 74 ∷ 107 ∷ 104 ∷ 9 ∷ 42 ∷ 75 ∷ 72 ∷ 105 ∷ 10 ∷ 43 ∷ 40 ∷ 73 ∷ 106 ∷ 11
    ∷ 12 ∷ 45 ∷ 78 ∷ 111 ∷ 108 ∷ 13 ∷ 46 ∷ 79 ∷ 76 ∷ 109 ∷ 14 ∷ 47 ∷ 44 ∷ 77 ∷ 110 ∷ 15
    ∷ 16 ∷ 49 ∷ 82 ∷ 115 ∷ 112 ∷ 17 ∷ 50 ∷ 83 ∷ 80 ∷ 113 ∷ 18 ∷ 51 ∷ 48 ∷ 81 ∷ 114 ∷ 19
    ∷ 20 ∷ 53 ∷ 86 ∷ 119 ∷ 116 ∷ 21 ∷ 54 ∷ 87 ∷ 84 ∷ 117 ∷ 22 ∷ 55 ∷ 52 ∷ 85 ∷ 118 ∷ 23
    ∷ 24 ∷ 57 ∷ 90 ∷ 123 ∷ 120 ∷ 25 ∷ 58 ∷ 91 ∷ 88 ∷ 121 ∷ 26 ∷ 59 ∷ 56 ∷ 89 ∷ 122 ∷ 27
    ∷ 28 ∷ 61 ∷ 94 ∷ 127 ∷ 124 ∷ 29 ∷ 62 ∷ 95 ∷ 92 ∷ 125 ∷ 30 ∷ 63 ∷ 60 ∷ 93 ∷ 126 ∷ 31 ∷ []

-- by formula: where bit i goes, and where bit i comes from
abbrev pub to : ℕ → ℕ
to i = 4 * (i / 16) + 32 * ((3 * (i % 16 / 4) + i % 4) % 4) + i % 4

abbrev pub from : ℕ → ℕ
from i = 16 * (i % 32 / 4) + 4 * ((3 * (i / 32) + i % 4) % 4) + i % 4

abbrev pub perm_bits : List ℕ → List ℕ
perm_bits = rearranged from

abbrev pub inv_perm_bits : List ℕ → List ℕ
inv_perm_bits = rearranged to

-- ---- AddRoundConstants

-- six bits a round, and the places that they go to: bit j to tap j
abbrev pub constants : List ℕ
constants =
    2 ∷ 33 ∷ 16 ∷ 9 ∷ 36 ∷ 19 ∷ 40 ∷ 53 ∷ 26 ∷ 13 ∷ 38 ∷ 51 ∷ 56 ∷ 61 ∷ 62 ∷ 31 ∷ 14 ∷ 7 ∷ 34 ∷ 49 ∷ 24 ∷ 45 ∷ 54 ∷ 59 ∷ 28
    ∷ 47 ∷ 22 ∷ 43 ∷ 20 ∷ 11 ∷ 4 ∷ 3 ∷ 32 ∷ 17 ∷ 8 ∷ []

abbrev pub taps : List ℕ
taps = 8 ∷ 13 ∷ 19 ∷ 35 ∷ 67 ∷ 106 ∷ []

-- bit i of a block that has bit j of x, bit j + 1 and so on at the places ts
abbrev pub tapped : List ℕ → ℕ → ℕ → ℕ → Bool
tapped [] x j i = false
tapped (t ∷ ts) x j i = cond (eqb i t) (bit x j) (tapped ts x (suc j) i)

-- what round n + 1 adds
unfoldable pub constant : ℕ → List ℕ
constant n = block_of (tapped taps (get_or constants n 0) 0)

-- ---- the key

-- rotated right by n
abbrev pub rotated : ℕ → List ℕ → List ℕ
rotated n = rearranged (λ i. (i + n) % 128)

-- ---- the cipher and its inverse

-- round n + 1 on the state s, under the round key k; and back
abbrev pub round : ℕ → List ℕ → List ℕ → List ℕ
round n k s = (perm_bits (sub_cells s) ⊕ constant n) ⊕ k

abbrev pub inv_round : ℕ → List ℕ → List ℕ → List ℕ
inv_round n k s = inv_sub_cells (inv_perm_bits ((s ⊕ k) ⊕ constant n))

-- the state after n rounds under the key k, from the state x
unfoldable pub after : ℕ → List ℕ → List ℕ → List ℕ
after zero k x = x
after (suc n) k x = round n (rotated (suc n) k) (after n k x)

unfoldable pub encrypt : List ℕ → List ℕ → List ℕ
encrypt k x = after rounds k (x ⊕ k)

-- the state n rounds before the state x
unfoldable pub before : ℕ → List ℕ → List ℕ → List ℕ
before zero k x = x
before (suc n) k x = before n k (inv_round n (rotated (suc n) k) x)

unfoldable pub decrypt : List ℕ → List ℕ → List ℕ
decrypt k x = before rounds k x ⊕ k
