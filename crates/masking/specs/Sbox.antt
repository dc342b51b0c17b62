-- The sharing rule of a bit form of degree 2, and the form of the S-box. Assumes nothing.
use Rattle.std.specs.Prelude.{Bool, true, ◌&&◌, List, ℕ, zero, suc, ◌+◌, ◌*◌}
use Rattle.bits.specs.Bit.{◌⊻◌}
use Rattle.blocks.specs.Bits.{bit_at, cells}
use Rattle.masking.specs.Shares.{next, is_first, Shares}

-- bit j over what stands for bit e of a cell (x e), for the product of bits e and f (p e f) and for 1
abbrev pub BitForm : Type 0
BitForm = ℕ → (ℕ → Bool) → (ℕ → ℕ → Bool) → Bool → Bool

-- the form of BAKSHEESH's S-box
abbrev pub sbox_form : BitForm
sbox_form zero x p one = p 0 2 ⊻ x 0 ⊻ x 1 ⊻ x 3 ⊻ one
sbox_form (suc zero) x p one = x 0 ⊻ p 1 2 ⊻ x 3 ⊻ one
sbox_form (suc (suc zero)) x p one = p 0 2 ⊻ p 1 2 ⊻ x 1 ⊻ x 3
sbox_form (suc (suc (suc j))) x p one = p 0 1 ⊻ p 0 2 ⊻ x 2 ⊻ x 3

-- bit j of a cell under a form, and each cell of a block
abbrev pub form_bit : BitForm → ℕ → (ℕ → Bool) → Bool
form_bit F j x = F j x (λ e f. x e && x f) true

abbrev pub form_cells : BitForm → List ℕ → List ℕ
form_cells F b = cells (λ c j. form_bit F j (λ e. bit_at b (4 * c + e)))

-- bit j of an output share, of the bits a of the next share and b of the one after it: linear terms of a, each product
-- as three, and 1 in the first share alone
abbrev pub share_bit : BitForm → Bool → ℕ → (ℕ → Bool) → (ℕ → Bool) → Bool
share_bit F first j a b = F j a (λ e f. (a e && a f) ⊻ (a e && b f) ⊻ (b e && a f)) first

-- an output share, the first one or another, of the next two shares
unfoldable pub form_share : BitForm → Bool → List ℕ → List ℕ → List ℕ
form_share F first a b = cells (λ c j. share_bit F first j (λ e. bit_at a (4 * c + e)) (λ e. bit_at b (4 * c + e)))

-- all three output shares: share i of the two after it, with 1 in share 0
abbrev pub form_shares : BitForm → Shares → Shares
form_shares F s i = form_share F (is_first i) (s (next i)) (s (next (next i)))
