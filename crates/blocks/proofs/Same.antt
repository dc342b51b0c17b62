-- Tests joined, and the test whether two lists are the same. Assumes nothing.
use Rattle.prelude.proofs.{◌≡◌, refl, sym, ap, ap₂, ◌∙◌, Bool, true, false, ◌&&◌, ◌||◌, and-true, and_assoc, false≢true, List}
use Rattle.prelude.proofs.{[], ◌∷◌, ◌++◌, ℕ, ◌+◌, ◌<◌, zero-add, arith, eqb, length, take, get_or, length-take-le, eqb-true, eq-eqb}
use Rattle.blocks.specs.Bytes.{same_bytes, part}
use Rattle.blocks.proofs.Parts.{part_length, part-more}

pub both_true : (a b : Bool) → (a && b) ≡ true → (a ≡ true) × (b ≡ true)
both_true true b e = (refl, e)
both_true false b e = absurd (false≢true e)

pub neither-true : (a b : Bool) → (a || b) ≡ false → (a ≡ false) × (b ≡ false)
neither-true true b e = absurd (false≢true (sym e))
neither-true false b e = (refl, e)

pub same_true : (a b : List ℕ) → same_bytes a b ≡ true → a ≡ b
same_true [] [] e = refl
same_true [] (y ∷ b) e = absurd (false≢true e)
same_true (x ∷ a) [] e = absurd (false≢true e)
same_true (x ∷ a) (y ∷ b) e =
    let both = both_true (eqb x y) (same_bytes a b) e in
    ap₂ ◌∷◌ (eqb-true x y both.0) (same_true a b both.1)

pub same_refl : (a : List ℕ) → same_bytes a a ≡ true
same_refl [] = refl
same_refl (x ∷ a) = ap₂ ◌&&◌ (eq-eqb x x refl) (same_refl a)

-- one byte more
same-append : (a b : List ℕ) (x y : ℕ) → length a ≡ length b → same_bytes (a ++ (x ∷ [])) (b ++ (y ∷ [])) ≡ (same_bytes a b && eqb x y)
same-append [] [] x y h = and-true (eqb x y)
same-append [] (z ∷ b) x y h = absurd (omega arith)
same-append (w ∷ a) [] x y h = absurd (omega arith)
same-append (w ∷ a) (z ∷ b) x y h =
    ap (λ (t : Bool). eqb w z && t) (same-append a b x y (omega arith)) ∙ sym (and_assoc (eqb w z) (same_bytes a b) (eqb x y))

-- ---- a loop that compares the first bytes of a list with the part of s from at, a byte a turn

module _ (b s : List ℕ) (at : ℕ) where
  -- the first i bytes are the same
  abbrev pub compared : ℕ → Bool
  compared i = same_bytes (take i b) (part at i s)

  module _ (i : ℕ) (h : i < length b) (l : at + i < length s) where
    pub compared-more : compared (i + 1) ≡ (compared i && eqb (get_or b i 0) (get_or s (at + i) 0))
    compared-more =
        ap₂ same_bytes (part-more 0 i b (omega arith)) (part-more at i s l)
        ∙ same-append (take i b) (part at i s) (get_or b (0 + i) 0) (get_or s (at + i) 0)
        (length-take-le i b (omega arith) ∙ sym (part_length at i s (omega arith)))
        ∙ ap (λ (k : ℕ). compared i && eqb (get_or b k 0) (get_or s (at + i) 0)) (zero-add i)
