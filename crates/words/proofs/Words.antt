-- What the cipher's steps say of a block in packed form. Assumes nothing.
use Rattle.prelude.proofs.{◌≡◌, refl, ap, ap₂, ◌∙◌, Bool, true, false, List, [], ◌∷◌, ℕ, ◌+◌, ◌*◌, ◌/◌, ◌%◌, ◌<◌, arith, T, get_or}
use Rattle.bits.specs.Bit.{bit, ◌⊻◌}
use Rattle.bits.proofs.Test.{below, four}
use Rattle.blocks.specs.Bytes.{Block, ◌⊕◌}
use Rattle.blocks.specs.Bits.{bit_at, block_of, cells, rearranged}
use Rattle.blocks.proofs.ByBits.{is_block, bit-block_of, ⊕-bits, bit-cells, cells_same, block_of-cells}
use Rattle.baksheesh.specs.Baksheesh.{constants, taps, tapped, constant}
use Rattle.words.specs.Words.{unpacked}

-- ---- words and blocks

pub bit-unpacked : (s : List ℕ) (c j : ℕ) → c < 32 → j < 4 → bit_at (unpacked s) (4 * c + j) ≡ bit (get_or s j 0) c
unfolding unpacked
bit-unpacked s c j h l = bit-cells (λ c j. bit (get_or s j 0) c) c j h l

pub unpacked-block : (s : List ℕ) → Block (unpacked s)
unfolding unpacked cells
unpacked-block s = is_block _

-- four words are the packed form of given cells if each bit of each word is
pub words : (a b c d : ℕ) (h : ℕ → ℕ → Bool)
    → ((i : ℕ) → i < 32 → bit a i ≡ h i 0) → ((i : ℕ) → i < 32 → bit b i ≡ h i 1)
    → ((i : ℕ) → i < 32 → bit c i ≡ h i 2) → ((i : ℕ) → i < 32 → bit d i ≡ h i 3)
    → unpacked (a ∷ b ∷ c ∷ d ∷ []) ≡ cells h
unfolding unpacked
words a b c d h p q r s =
    cells_same _ h (λ i j l k. four (λ j. bit (get_or (a ∷ b ∷ c ∷ d ∷ []) j 0) i ≡ h i j) (p i l) (q i l) (r i l) (s i l) j k)

-- ---- steps

T→true : (b : Bool) → T b → b ≡ true
T→true true t = refl
T→true false t = absurd t

-- each bit of a full word is set
pub ones : (i : ℕ) → i < 32 → bit 0xffff_ffff i ≡ true
unfolding bit
ones i h = T→true _ (below 32 (bit 0xffff_ffff) tt i h)

by-cells : (f : ℕ → Bool) (h : ℕ → ℕ → Bool) → ((c j : ℕ) → c < 32 → j < 4 → f (4 * c + j) ≡ h c j) → block_of f ≡ cells h
by-cells f h e = block_of-cells f ∙ cells_same _ h e

module _ (s : List ℕ) where
  -- bit j of cell c comes from word p (4c + j) % 4, bit p (4c + j) / 4
  pub packed-rearranged : (p : ℕ → ℕ) → ((i : ℕ) → i < 128 → p i < 128)
      → rearranged p (unpacked s) ≡ cells (λ c j. bit (get_or s (p (4 * c + j) % 4) 0) (p (4 * c + j) / 4))
  unfolding rearranged
  packed-rearranged p t =
      by-cells _ _ λ c j h l.
      let b = t (4 * c + j) (omega arith) in
      let e : p (4 * c + j) ≡ 4 * (p (4 * c + j) / 4) + p (4 * c + j) % 4 = omega arith in
      ap (bit_at (unpacked s)) e ∙ bit-unpacked s (p (4 * c + j) / 4) (p (4 * c + j) % 4) (omega arith) (omega arith)

  pub packed-xor : (t : List ℕ) → unpacked s ⊕ unpacked t ≡ cells (λ c j. bit (get_or s j 0) c ⊻ bit (get_or t j 0) c)
  packed-xor t =
      ⊕-bits (unpacked-block s) (unpacked-block t)
      ∙ by-cells _ _ (λ c j h l. ap₂ ◌⊻◌ (bit-unpacked s c j h l) (bit-unpacked t c j h l))

  pub packed-constant : (n : ℕ)
      → unpacked s ⊕ constant n ≡ cells (λ c j. bit (get_or s j 0) c ⊻ tapped taps (get_or constants n 0) 0 (4 * c + j))
  unfolding constant
  packed-constant n =
      ⊕-bits (unpacked-block s) (is_block _)
      ∙ by-cells _ _ (λ c j h l. ap₂ ◌⊻◌ (bit-unpacked s c j h l) (bit-block_of _ (4 * c + j) (omega arith)))
