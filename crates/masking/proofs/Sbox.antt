-- The sharing rule: its shares are blocks, and they join to the cells under the form where XOR goes through it. The S-box's form is one
-- such, and is the S-box. Assumes nothing.
use Rattle.prelude.proofs.{◌≡◌, refl, sym, ap, ap₂, ◌∙◌, fun_ext, Bool, true, false, ◌&&◌, List, ℕ, zero, suc, ◌+◌, ◌*◌}
use Rattle.bits.specs.Bit.{◌⊻◌}
use Rattle.bits.proofs.Laws.{⊻-assoc, ⊻-comm, ⊻-left-comm, and-⊻, ⊻-and}
use Rattle.blocks.specs.{Bytes.◌⊕◌, Bits.bit_at, Bits.cells, Bits.each_cell}
use Rattle.blocks.proofs.{ByBits.is_block, ByBits.bit-⊕, ByBits.block_of-⊕, Xor.⊕-block}
use Rattle.baksheesh.specs.Baksheesh.{sbox, sub_cells}
use Rattle.masking.specs.Shares.{Index, i₀, i₁, i₂, next, is_first, Shares, Blocks, join}
use Rattle.masking.specs.Sbox.{BitForm, sbox_form, form_bit, form_cells, share_bit, form_share, form_shares}

-- ---- what a form has to be

-- XOR goes through it
pub record Additive (F : BitForm) : Type 0 where
  pub form-⊻ : (j : ℕ) (x y : ℕ → Bool) (p q : ℕ → ℕ → Bool) (s t : Bool)
      → F j (λ e. x e ⊻ y e) (λ e f. p e f ⊻ q e f) (s ⊻ t) ≡ (F j x p s ⊻ F j y q t)

-- ---- blocks

pub form_shares-blocks : (F : BitForm) (s : Shares) → Blocks (form_shares F s)
unfolding form_share cells
form_shares-blocks F s i = is_block _

-- ---- joined

-- the three shares of a product
product : (a b c x y z : Bool)
    → (((b && y) ⊻ (b && z) ⊻ (c && y)) ⊻ (((c && z) ⊻ (c && x) ⊻ (a && z)) ⊻ ((a && x) ⊻ (a && y) ⊻ (b && x))))
    ≡ ((a ⊻ (b ⊻ c)) && (x ⊻ (y ⊻ z)))
product a b c x y z = simp (and-⊻, ⊻-and, ⊻-assoc, ⊻-comm, ⊻-left-comm)

turned : (a b c : Bool) → (b ⊻ (c ⊻ a)) ≡ (a ⊻ (b ⊻ c))
turned a b c = sym (⊻-assoc b c a) ∙ ⊻-comm (b ⊻ c) a

cells-⊕ : (g h : ℕ → ℕ → Bool) → cells g ⊕ cells h ≡ cells (λ c j. g c j ⊻ h c j)
unfolding cells
cells-⊕ g h = sym (block_of-⊕ _ _)

module _ {F : BitForm} (A : Additive F) where
  -- the three shares of an output bit
  bits-join : (j : ℕ) (a b c : ℕ → Bool)
      → (share_bit F (is_first i₀) j b c ⊻ (share_bit F (is_first i₁) j c a ⊻ share_bit F (is_first i₂) j a b))
      ≡ form_bit F j (λ e. a e ⊻ (b e ⊻ c e))
  bits-join j a b c =
      ap (λ (z : Bool). F j b (P b c) true ⊻ z) (sym (A.form-⊻ j c a (P c a) (P a b) false false))
      ∙ sym (A.form-⊻ j b (λ e. c e ⊻ a e) (P b c) (λ e f. P c a e f ⊻ P a b e f) true false)
      ∙ ap₂ (λ (x : ℕ → Bool) (p : ℕ → ℕ → Bool). F j x p true) (fun_ext (λ e. turned (a e) (b e) (c e)))
      (fun_ext (λ e. fun_ext (λ f. product (a e) (b e) (c e) (a f) (b f) (c f))))
    where
      P : (ℕ → Bool) → (ℕ → Bool) → ℕ → ℕ → Bool
      P a b e f = (a e && a f) ⊻ (a e && b f) ⊻ (b e && a f)

  pub form_shares-join : (s : Shares) → Blocks s → join (form_shares F s) ≡ form_cells F (join s)
  unfolding join form_share
  form_shares-join s p =
      ap (λ (l : List ℕ). cells (share i₀) ⊕ l) (cells-⊕ (share i₁) (share i₂))
      ∙ cells-⊕ (share i₀) (λ c j. share i₁ c j ⊻ share i₂ c j)
      ∙ ap cells (fun_ext (λ c. fun_ext (λ j. bits-join j (x i₀ c) (x i₁ c) (x i₂ c)
      ∙ ap (form_bit F j) (sym (fun_ext (joined c))))))
    where
      x : Index → ℕ → ℕ → Bool
      x i c e = bit_at (s i) (4 * c + e)

      share : Index → ℕ → ℕ → Bool
      share i c j = share_bit F (is_first i) j (x (next i) c) (x (next (next i)) c)

      joined : (c e : ℕ) → bit_at (s i₀ ⊕ (s i₁ ⊕ s i₂)) (4 * c + e) ≡ (x i₀ c e ⊻ (x i₁ c e ⊻ x i₂ c e))
      joined c e =
          bit-⊕ (p i₀) (⊕-block (p i₁) (p i₂)) (4 * c + e)
          ∙ ap (λ (z : Bool). x i₀ c e ⊻ z) (bit-⊕ (p i₁) (p i₂) (4 * c + e))

-- ---- the S-box's form

-- with the products and 1 it is the S-box
pub form-sbox : (j : ℕ) (x : ℕ → Bool) → form_bit sbox_form j x ≡ sbox j (x 0) (x 1) (x 2) (x 3)
form-sbox zero x = refl
form-sbox (suc zero) x = refl
form-sbox (suc (suc zero)) x = refl
form-sbox (suc (suc (suc j))) x = refl

sbox-additive : Additive sbox_form
sbox-additive = record { form-⊻ = go }
  where
    go : (j : ℕ) (x y : ℕ → Bool) (p q : ℕ → ℕ → Bool) (s t : Bool)
        → sbox_form j (λ e. x e ⊻ y e) (λ e f. p e f ⊻ q e f) (s ⊻ t) ≡ (sbox_form j x p s ⊻ sbox_form j y q t)
    go zero x y p q s t = simp (⊻-assoc, ⊻-comm, ⊻-left-comm)
    go (suc zero) x y p q s t = simp (⊻-assoc, ⊻-comm, ⊻-left-comm)
    go (suc (suc zero)) x y p q s t = simp (⊻-assoc, ⊻-comm, ⊻-left-comm)
    go (suc (suc (suc j))) x y p q s t = simp (⊻-assoc, ⊻-comm, ⊻-left-comm)

pub sbox-join : (s : Shares) → Blocks s → join (form_shares sbox_form s) ≡ sub_cells (join s)
unfolding each_cell
sbox-join s p = form_shares-join sbox-additive s p ∙ ap cells (fun_ext (λ c. fun_ext (λ j. form-sbox j _)))
