-- A body without skipped words and in the writer's order is the one written for what it says. Assumes nothing.
use Rattle.prelude.proofs.{◌≡◌, refl, sym, ap, ap₂, ◌∙◌, Bool, true, false, not, cond, ◌&&◌, ◌||◌, or-true, false≢true, subst, List, []}
use Rattle.prelude.proofs.{◌∷◌, ◌++◌, ℕ, zero, suc, ◌+◌, ◌*◌, ◌/◌, ◌%◌, ◌<◌, arith, length, eqb, eq-eqb, ℕ_discrete, take, drop}
use Rattle.prelude.proofs.{take-append-drop, length-drop, append-nil, not-false, not-true, lt-ltb, leb, eqb-true}
use Rattle.blocks.specs.Bytes.{Bytes, big_endian, value, part}
use Rattle.blocks.proofs.Numbers.{big_endian-part, part-lt}
use Rattle.blocks.proofs.Xor.{bytes_drop}
use Rattle.blocks.proofs.Same.{both_true, neither-true}
use Rattle.answers.specs.Answer.{done, number_of, Accepts, NoneOf}
use Rattle.answers.proofs.First.{accepts-none, done-before}
use Rattle.body.specs.Mark.{offset_in, mark_in, offset_fits, fits, word_bytes, offset_word, written, values}
use Rattle.body.specs.Entry.{read_causes, read_answer}
use Rattle.body.specs.declared.Mark.{Mark}
use Rattle.std.specs.Prelude.{Some, None}
use Rattle.body.specs.Words.{fields, kind, field, words, word_of, has, minutes, offset_in_range, bad, any_bad, InOrder}
use Rattle.body.proofs.Signed.{residue-signed}
use Rattle.body.proofs.Words.{bad-offset, word-here, word-later, word-not-zero}
use Rattle.body.proofs.Values.{values-injective}
use Rattle.body.proofs.Written.{words-none, words-cons}
use Rattle.body.proofs.Order.{bad-again, has_more}

-- ---- the words of each kind, in order

-- a word before others, if it is there
abbrev with : ℕ → List ℕ → List ℕ
with w ws = cond (eqb w 0) ws (w ∷ ws)

-- the first words of n kinds, from k
abbrev by_kind : ℕ → ℕ → List ℕ → List ℕ
by_kind zero k ws = []
by_kind (suc n) k ws = with (word_of k ws) (by_kind n (suc k) ws)

-- no word of a kind below all
lower : (j k : ℕ) (ws : List ℕ) → j < k → InOrder k ws → word_of j ws ≡ 0
lower j k [] h o = refl
lower j k (w ∷ ws) h o = word-later j w ws (let l = o.0 in omega arith) ∙ lower j (kind w) ws (let l = o.0 in omega arith) o.1.1

-- a word of a lower kind makes no difference
passed : (n k w : ℕ) (ws : List ℕ) → kind w < k → by_kind n k (w ∷ ws) ≡ by_kind n k ws
passed zero k w ws h = refl
passed (suc n) k w ws h = ap₂ with (word-later k w ws (omega arith)) (passed n (suc k) w ws (omega arith))

-- behind one of its kind, no other
rising : (before : List ℕ) (w : ℕ) (ws : List ℕ) → 0 < kind w → InOrder (kind w) ws → any_bad (before ++ (w ∷ [])) ws ≡ false
    → InOrder (suc (kind w)) ws
rising before w [] h o e = tt
rising before w (v ∷ ws) h o e = elim (ℕ_discrete (kind w) (kind v)) [
  | yes d ↦
      let same = ap (λ (b : Bool). has (kind v) before || b) (eq-eqb (kind w) (kind v) d) in
      let again = has_more (kind v) before w (omega arith) ∙ same ∙ or-true (has (kind v) before) in
      absurd (false≢true (sym (neither-true (bad (has (kind v) (before ++ (w ∷ []))) v) _ e).0
      ∙ ap (λ (t : Bool). bad t v) again ∙ bad-again v o.1.0))
  | no n ↦ let l = o.0 in (omega arith, o.1)
]

sorted : (n k : ℕ) (before ws : List ℕ) → 0 < k → k + n ≡ 5 → InOrder k ws → any_bad before ws ≡ false → ws ≡ by_kind n k ws
sorted zero k before [] h s o e = refl
sorted zero k before (w ∷ ws) h s o e = absurd (let l = o.0 in let m = o.1.0 in omega arith)
sorted (suc n) k before [] h s o e = sorted n (suc k) before [] (omega arith) (omega arith) tt e
sorted (suc n) k before (w ∷ ws) h s o e = elim (ℕ_discrete (kind w) k) [
  | yes d ↦
      let rest = (neither-true (bad (has (kind w) before) w) _ e).1 in
      let up = subst (λ (j : ℕ). InOrder (suc j) ws) d (rising before w ws (omega arith) o.1.1 rest) in
      let after = sorted n (suc k) (before ++ (w ∷ [])) ws (omega arith) (omega arith) up rest in
      ap (λ (l : List ℕ). w ∷ l) (after ∙ sym (passed n (suc k) w ws (omega arith)))
      ∙ ap (λ (b : Bool). cond b (by_kind n (suc k) (w ∷ ws)) (w ∷ by_kind n (suc k) (w ∷ ws))) (sym (word-not-zero k w h d))
      ∙ ap (λ (x : ℕ). with x (by_kind n (suc k) (w ∷ ws))) (sym (word-here k w ws d))
  | no m ↦
      let l = o.0 in
      let up : InOrder (suc k) (w ∷ ws) = (omega arith, o.1) in
      sorted n (suc k) before (w ∷ ws) (omega arith) (omega arith) up e
      ∙ ap (λ (x : ℕ). with x (by_kind n (suc k) (w ∷ ws))) (sym (lower k (suc k) (w ∷ ws) (omega arith) up))
]

-- ---- the bytes of words

spelled : List ℕ → List ℕ
spelled [] = []
spelled (w ∷ ws) = big_endian 4 w ++ spelled ws

spelled-words : (n : ℕ) (b : List ℕ) → length b ≡ 4 * n → Bytes b → spelled (words b) ≡ b
unfolding spelled
spelled-words zero [] l h = ap spelled words-none
spelled-words zero (x ∷ b) l h = absurd (omega arith)
spelled-words (suc n) b l h =
    let x = value (part 0 4 b) in
    let head : big_endian 4 x ≡ take 4 b = big_endian-part 0 4 b h (omega arith) in
    let whole : big_endian 4 x ++ drop 4 b ≡ b = ap (λ (l : List ℕ). l ++ drop 4 b) head ∙ take-append-drop 4 b in
    ap (λ (l : List ℕ). spelled (words l)) (sym whole)
    ∙ ap spelled (words-cons x (drop 4 b) (part-lt 0 4 b h (omega arith)))
    ∙ ap (λ (l : List ℕ). big_endian 4 x ++ l) (spelled-words n (drop 4 b) (length-drop 4 b ∙ omega arith) (bytes_drop 4 b h))
    ∙ whole

-- ---- what is known of the words of a body that is read

kind-of : (k : ℕ) (ws : List ℕ) → has k ws ≡ true → kind (word_of k ws) ≡ k
kind-of k [] e = absurd (false≢true e)
kind-of k (w ∷ ws) e = elim (ℕ_discrete (kind w) k) [
  | yes d ↦ ap kind (word-here k w ws d) ∙ d
  | no n ↦ ap kind (word-later k w ws n) ∙ kind-of k ws (ap (λ (x : ℕ). not (eqb x 0)) (sym (word-later k w ws n)) ∙ e)
]

in-range : (before ws : List ℕ) → any_bad before ws ≡ false → has 4 ws ≡ true → offset_in_range (minutes (field (word_of 4 ws))) ≡ true
in-range before [] e h = absurd (false≢true h)
in-range before (w ∷ ws) e h =
    let both = neither-true (bad (has (kind w) before) w) _ e in elim (ℕ_discrete (kind w) 4) [
      | yes d ↦
          ap (λ (x : ℕ). offset_in_range (minutes (field x))) (word-here 4 w ws d)
          ∙ not-false _ (neither-true (has (kind w) before) _ (sym (bad-offset _ w d) ∙ both.0)).1
      | no n ↦
          ap (λ (x : ℕ). offset_in_range (minutes (field x))) (word-later 4 w ws n)
          ∙ in-range (before ++ (w ∷ [])) ws both.1 (ap (λ (x : ℕ). not (eqb x 0)) (sym (word-later 4 w ws n)) ∙ h)
    ]

-- the offset of a word of its kind, or of none
offset_word_lem : (w : ℕ) (t : Bool) → eqb w 0 ≡ t → (t ≡ false → (kind w ≡ 4) × (offset_in_range (minutes (field w)) ≡ true))
    → (offset_fits (offset_in w) ≡ true) × (spelled (with w []) ≡ offset_word (offset_in w))
unfolding spelled
offset_word_lem w true e h = (
  ap (λ (t : Bool). offset_fits (cond t None (Some (minutes (field w))))) e,
  ap (λ (t : Bool). spelled (cond t [] (w ∷ []))) e ∙ sym (ap (λ (t : Bool). offset_word (cond t None (Some (minutes (field w))))) e),
)
offset_word_lem w false e h =
    let k = (h refl).0 in
    let same : w ≡ 4 * fields + field w = omega arith in (
      ap (λ (t : Bool). offset_fits (cond t None (Some (minutes (field w))))) e ∙ (h refl).1,
      ap (λ (t : Bool). spelled (cond t [] (w ∷ []))) e ∙ append-nil (big_endian 4 w) ∙ ap (big_endian 4) same
          ∙ ap (λ (f : ℕ). word_bytes 4 f) (sym (residue-signed fields (field w) (omega arith)))
          ∙ sym (ap (λ (t : Bool). offset_word (cond t None (Some (minutes (field w))))) e),
    )

module _ (b : List ℕ) (R : NoneOf (read_causes b)) where
  abbrev ws : List ℕ
  ws = words b

  needed : (has 1 ws ≡ true) × ((has 2 ws ≡ true) × (has 3 ws ≡ true))
  needed =
      let one = both_true (has 1 ws) _ (not-false _ R.1.1.0) in
      let two = both_true (has 2 ws) (has 3 ws) one.1 in
      (one.0, two)

  there : (k : ℕ) → has k ws ≡ true → eqb (word_of k ws) 0 ≡ false
  there k e = not-true (eqb (word_of k ws) 0) e

  offset-there : (offset_fits (offset_in (word_of 4 ws)) ≡ true) × (spelled (with (word_of 4 ws) []) ≡ offset_word (offset_in (word_of 4 ws)))
  offset-there =
      offset_word_lem (word_of 4 ws) (eqb (word_of 4 ws) 0) refl (λ e. (kind-of 4 ws (ap not e), in-range [] ws R.1.0 (ap not e)))

  -- what is read is in its ranges
  fits-mark_in : fits (mark_in ws) ≡ true
  fits-mark_in = λ i.
      lt-ltb (mark_in ws).seconds (fields * fields) (omega arith) i
      && (lt-ltb (mark_in ws).fraction fields (omega arith) i && offset-there.0 i)

  four-words : InOrder 1 ws → ws ≡ word_of 1 ws ∷ word_of 2 ws ∷ word_of 3 ws ∷ with (word_of 4 ws) []
  four-words o =
      let one = there 1 needed.0 in
      let two = there 2 needed.1.0 in
      let three = there 3 needed.1.1 in
      let last : List ℕ = with (word_of 4 ws) [] in
      let third : 𝕀 → List ℕ = λ i. cond (three i) last (word_of 3 ws ∷ last) in
      let second : 𝕀 → List ℕ = λ i. cond (two i) (third i) (word_of 2 ws ∷ third i) in
      sorted 4 1 [] ws (omega arith) (omega arith) o R.1.0 ∙ λ i. cond (one i) (second i) (word_of 1 ws ∷ second i)

  -- a body whose words are in order
  is-written : Bytes b → InOrder 1 ws → b ≡ written (mark_in ws)
  unfolding spelled
  is-written h o =
      let size = (both_true (leb 4 (length b)) _ (not-false _ R.0)).1 in
      let steps : length b % 4 ≡ 0 = eqb-true (length b % 4) 0 (both_true (leb (length b) 256) (eqb (length b % 4) 0) size).1 in
      let one = kind-of 1 ws needed.0 in
      let two = kind-of 2 ws needed.1.0 in
      let three = kind-of 3 ws needed.1.1 in
      let e₁ : word_of 1 ws ≡ 1 * fields + (mark_in ws).seconds / fields = omega arith in
      let e₂ : word_of 2 ws ≡ 2 * fields + (mark_in ws).seconds % fields = omega arith in
      let e₃ : word_of 3 ws ≡ 3 * fields + (mark_in ws).fraction = omega arith in
      sym (spelled-words (length b / 4) b (omega arith) h) ∙ ap spelled (four-words o)
      ∙ λ i. big_endian 4 (e₁ i) ++ (big_endian 4 (e₂ i) ++ (big_endian 4 (e₃ i) ++ offset-there.1 i))

-- ---- the statements

-- what is read is in its ranges
pub read_fits : (b : List ℕ) → Accepts (read_answer b) → fits (mark_in (words b)) ≡ true
unfolding read_answer
read_fits b a = fits-mark_in b (accepts-none (read_causes b) _ tt a)

-- a body without skipped words and in the writer's order that gives the values of a mark is the one written for it
pub only-written : (b : List ℕ) (m : Mark) → Bytes b → InOrder 1 (words b) → fits m ≡ true → read_answer b ≡ done (values m) → b ≡ written m
unfolding read_answer
only-written b m h o f e =
    let none = accepts-none (read_causes b) _ tt (ap number_of e) in
    let said = (done-before (read_causes b) [] _ (values m) (done []) e).0 in
    is-written b none h o ∙ ap written (values-injective (mark_in (words b)) m (fits-mark_in b none) f said)
