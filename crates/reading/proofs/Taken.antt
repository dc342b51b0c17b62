-- What the reader holds, with one word more. Assumes nothing.
use Rattle.prelude.proofs.{◌≡◌, refl, sym, ap, ◌∙◌, Bool, true, false, cond, ◌||◌, List, [], ◌∷◌, ◌++◌, ℕ, ◌<◌, arith, eqb, ℤ}
use Rattle.std.specs.Prelude.{Option, Some, None, Result, Ok, Err, MatchOption, MatchResult}
use Rattle.body.specs.Words.{kind, field, has, minutes, offset_in_range, bad, any_bad}
use Rattle.body.specs.declared.ReadRefusal.{ReadRefusal}
use Rattle.body.specs.declared.ReadRefusal.TheVariants.{BadWord}
use Rattle.body.proofs.Words.{any-more, word_more, word_same, word-not-zero, bad-zero, bad-needed, bad-offset, bad-skipped}
use Rattle.reading.specs.Found.{first_of, Holds, IsBad}
use Rattle.reading.specs.declared.Found.{Found}

-- ---- the place of a kind, with one word more

module _ {A : Type 0} (g : ℕ → A) (k : ℕ) (ws : List ℕ) (w : ℕ) where
  first-none : first_of g k ws ≡ None → has k ws ≡ false
  first-none e = grind arith

  first-some : (x : A) → first_of g k ws ≡ Some x → has k ws ≡ true
  first-some x e = grind arith

  first-more : 0 < k → kind w ≡ k → has k ws ≡ false → first_of g k (ws ++ (w ∷ [])) ≡ Some (g w)
  first-more h e n = grind (arith, word_more, word-not-zero)

  first-same : (kind w ≡ k → ⊥) → first_of g k (ws ++ (w ∷ [])) ≡ first_of g k ws
  first-same n = ap (λ (x : ℕ). cond (eqb x 0) None (Some (g x))) (word_same k ws w n)

-- what came of a place that held p, and holds q now where it was empty
by-place : {A : Type 0} (p q : Option A) (v : A) (r : Result Unit ReadRefusal) (P : Type 0) (Q : ReadRefusal → Type 0)
    → MatchOption p ((r ≡ Ok tt) × (q ≡ Some v)) (λ _. r ≡ Err BadWord) → (p ≡ None → q ≡ Some v → P) → ((x : A) → p ≡ Some x → Q BadWord)
    → MatchResult r (λ _. P) Q
by-place None q v r P Q m n s = rw m.0 (n refl m.1)
by-place (Some x) q v r P Q m n s = rw m (s x refl)

-- ---- all that the reader holds

abbrev offset_of : ℕ → ℤ
offset_of w = minutes (field w)

module _ (f : Found) (ws : List ℕ) (w : ℕ) (H : Holds f ws) where
  abbrev more : List ℕ
  more = ws ++ (w ∷ [])

  bad-more : any_bad [] more ≡ bad (has (kind w) ws) w
  bad-more = any-more [] ws w ∙ ap (λ (b : Bool). b || bad (has (kind w) ws) w) H.good

  high : (kind w ≡ 1 → ⊥) → f.high ≡ first_of field 1 more
  high n = H.high ∙ sym (first-same field 1 ws w n)

  low : (kind w ≡ 2 → ⊥) → f.low ≡ first_of field 2 more
  low n = H.low ∙ sym (first-same field 2 ws w n)

  fraction : (kind w ≡ 3 → ⊥) → f.fraction ≡ first_of field 3 more
  fraction n = H.fraction ∙ sym (first-same field 3 ws w n)

  offset : (kind w ≡ 4 → ⊥) → f.offset ≡ first_of offset_of 4 more
  offset n = H.offset ∙ sym (first-same offset_of 4 ws w n)

  -- words of kinds that have no place, and one of kind 4 whose offset is out of its range

  pub of_kind_0 : kind w ≡ 0 → IsBad BadWord more
  of_kind_0 e = grind (arith, bad-more, bad-zero, high, low, fraction, offset)

  pub skipped : 4 < kind w → Holds f more
  skipped h = grind (arith, bad-more, bad-skipped, high, low, fraction, offset)

  pub out_of_range : kind w ≡ 4 → offset_in_range (minutes (field w)) ≡ false → IsBad BadWord more
  out_of_range e o = grind (arith, bad-more, bad-offset)

  -- words put in their places

  module _ (r : Result Unit ReadRefusal) where
    -- what is taken where a place was empty
    abbrev Taken : {A : Type 0} → Option A → Option A → A → Found → Type 0
    Taken p q v g = MatchOption p ((r ≡ Ok tt) × (q ≡ Some v)) (λ _. r ≡ Err BadWord) → MatchResult r (λ _. Holds g more) (λ why. IsBad why more)

    module _ (q : Option ℕ) (v : ℕ) (says : v ≡ field w) where
      pub taken_high : kind w ≡ 1 → Taken f.high q v (record f { high = q })
      taken_high e m =
          by-place f.high q v r _ _ m
          (λ n h. grind (arith, bad-more, bad-needed, first-none field 1 ws w, first-more field 1 ws w, low, fraction, offset))
          (λ x h. grind (arith, bad-more, bad-needed, first-some field 1 ws w x))

      pub taken_low : kind w ≡ 2 → Taken f.low q v (record f { low = q })
      taken_low e m =
          by-place f.low q v r _ _ m
          (λ n h. grind (arith, bad-more, bad-needed, first-none field 2 ws w, first-more field 2 ws w, high, fraction, offset))
          (λ x h. grind (arith, bad-more, bad-needed, first-some field 2 ws w x))

      pub taken_fraction : kind w ≡ 3 → Taken f.fraction q v (record f { fraction = q })
      taken_fraction e m =
          by-place f.fraction q v r _ _ m
          (λ n h. grind (arith, bad-more, bad-needed, first-none field 3 ws w, first-more field 3 ws w, high, low, offset))
          (λ x h. grind (arith, bad-more, bad-needed, first-some field 3 ws w x))

    pub taken_offset : (q : Option ℤ) (z : ℤ) → z ≡ minutes (field w) → kind w ≡ 4 → offset_in_range z ≡ true
        → Taken f.offset q z (record f { offset = q })
    taken_offset q z says e o m =
        by-place f.offset q z r _ _ m
        (λ n h. grind (arith, bad-more, bad-offset, first-none offset_of 4 ws w, first-more offset_of 4 ws w, high, low, fraction))
        (λ x h. grind (arith, bad-more, bad-offset, first-some offset_of 4 ws w x))
