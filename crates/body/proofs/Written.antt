-- Reading a written body gives its values. Assumes nothing.
use Rattle.prelude.proofs.{◌≡◌, refl, sym, ap, ap₂, ◌∙◌, Bool, true, false, not, cond, ◌&&◌, ◌||◌, List, [], ◌∷◌, ◌++◌, ℕ, suc, ◌+◌, ◌*◌}
use Rattle.prelude.proofs.{◌/◌, ◌%◌, ◌^◌, ◌<◌, ◌≤◌, arith, length, length-append, take, take_at, drop-append-add, eqb, eq-eqb, append-nil}
use Rattle.prelude.proofs.{not-false, ℤ}
use Rattle.blocks.specs.Bytes.{big_endian, value, part, put, tab}
use Rattle.blocks.proofs.Numbers.{big_endian-length, big_endian-says}
use Rattle.blocks.proofs.{ByBytes.tab-same, Parts.tab-cons}
use Rattle.blocks.proofs.Written.{part-there}
use Rattle.answers.specs.Answer.{done, Accepts}
use Rattle.answers.proofs.First.{done_none, accepts-none, if-done}
use Rattle.body.specs.Signed.{residue}
use Rattle.body.specs.Words.{fields, kind, field, words, word_of, has, minutes, offset_in_range, bad, any_bad}
use Rattle.body.specs.Mark.{mark_of, mark_in, offset_in, offset_fits, fits, offset_word, written, values}
use Rattle.body.specs.Entry.{right_length, read_causes, read_answer, values_output, write_causes, write_answer, write_output}
use Rattle.body.specs.declared.Mark.{Mark}
use Rattle.std.specs.Prelude.{Option, Some, None, is_some}
use Rattle.body.proofs.Signed.{residue-lt, signed-residue, offset-small}
use Rattle.body.proofs.Words.{bad-needed, bad-offset, word-here, word-later, word-not-zero}
use Rattle.body.proofs.Answers.{values-read, values-done}
use Rattle.body.proofs.Writing.{written_size}
use Rattle.body.proofs.Values.{Fitting, fitting}

-- ---- the words of bytes

pub words-none : words [] ≡ []
unfolding tab
words-none = refl

pub words-cons : (x : ℕ) (b : List ℕ) → x < 2 ^ 32 → words (big_endian 4 x ++ b) ≡ x ∷ words b
words-cons x b h =
    let l = big_endian-length 4 x in
    let n : length (big_endian 4 x ++ b) / 4 ≡ suc (length b / 4) = omega (arith, length-append (big_endian 4 x) b) in
    ap (λ (k : ℕ). tab k (λ (i : ℕ). value (part (4 * i) 4 (big_endian 4 x ++ b)))) n
    ∙ tab-cons (length b / 4) _
    ∙ ap₂ ◌∷◌ (ap value (take_at (big_endian 4 x) b 4 l) ∙ big_endian-says 4 x h)
    (tab-same (length b / 4) _ _ (λ k m.
    let j : 4 * suc k ≡ length (big_endian 4 x) + 4 * k = omega arith in
    ap (λ (i : ℕ). value (part i 4 (big_endian 4 x ++ b))) j
    ∙ ap (λ (r : List ℕ). value (take 4 r)) (drop-append-add (big_endian 4 x) b (4 * k))))

-- ---- the words of a written body

-- a word of kind k
module _ (k f : ℕ) (h : f < fields) where
  pub kind-word : kind (k * fields + f) ≡ k
  kind-word = omega arith

  pub field-word : field (k * fields + f) ≡ f
  field-word = omega arith

has_other : (k w : ℕ) (ws : List ℕ) → (kind w ≡ k → ⊥) → has k ws ≡ false → has k (w ∷ ws) ≡ false
has_other k w ws n e = ap (λ (x : ℕ). not (eqb x 0)) (word-later k w ws n) ∙ e

-- words of the kinds 1, 2 and 3, and more behind them
module _ (a b c : ℕ) (ds : List ℕ) (ka : kind a ≡ 1) (kb : kind b ≡ 2) (kc : kind c ≡ 3) where
  abbrev all : List ℕ
  all = a ∷ b ∷ c ∷ ds

  pub first_word : word_of 1 all ≡ a
  first_word = word-here 1 a (b ∷ c ∷ ds) ka

  pub second_word : word_of 2 all ≡ b
  second_word = word-later 2 a (b ∷ c ∷ ds) (omega arith) ∙ word-here 2 b (c ∷ ds) kb

  pub third-word : word_of 3 all ≡ c
  third-word = word-later 3 a (b ∷ c ∷ ds) (omega arith) ∙ word-later 3 b (c ∷ ds) (omega arith) ∙ word-here 3 c ds kc

  pub fourth-word : word_of 4 all ≡ word_of 4 ds
  fourth-word = word-later 4 a (b ∷ c ∷ ds) (omega arith) ∙ word-later 4 b (c ∷ ds) (omega arith) ∙ word-later 4 c ds (omega arith)

  pub all_there : (has 1 all && (has 2 all && has 3 all)) ≡ true
  all_there =
      let one = there 1 a (omega arith) ka first_word in
      let two = there 2 b (omega arith) kb second_word in
      let three = there 3 c (omega arith) kc third-word in
      λ i. one i && (two i && three i)
    where
      there : (k w : ℕ) → 0 < k → kind w ≡ k → word_of k all ≡ w → has k all ≡ true
      there k w h e d = ap (λ (x : ℕ). not (eqb x 0)) d ∙ ap not (word-not-zero k w h e)

  pub none-bad : any_bad [] all ≡ any_bad (a ∷ b ∷ c ∷ []) ds
  none-bad =
      let one = good [] a (omega arith) (omega arith) (ap not (eq-eqb 0 0 refl)) in
      let two = good (a ∷ []) b (omega arith) (omega arith) (has_other (kind b) a [] (omega arith) refl) in
      let fresh = has_other (kind c) a (b ∷ []) (omega arith) (has_other (kind c) b [] (omega arith) refl) in
      let three = good (a ∷ b ∷ []) c (omega arith) (omega arith) fresh in
      λ i. one i || (two i || (three i || any_bad (a ∷ b ∷ c ∷ []) ds))
    where
      good : (before : List ℕ) (w : ℕ) → 1 ≤ kind w → kind w < 4 → has (kind w) before ≡ false → bad (has (kind w) before) w ≡ false
      good before w h l e = bad-needed _ w h l ∙ e

-- an offset in its range behind them
good-offset : (a b c d : ℕ) → kind a ≡ 1 → kind b ≡ 2 → kind c ≡ 3 → kind d ≡ 4 → offset_in_range (minutes (field d)) ≡ true
    → any_bad (a ∷ b ∷ c ∷ []) (d ∷ []) ≡ false
good-offset a b c d ka kb kc kd h =
    let last = has_other (kind d) b (c ∷ []) (omega arith) (has_other (kind d) c [] (omega arith) refl) in
    let fresh = has_other (kind d) a (b ∷ c ∷ []) (omega arith) last in
    let e = bad-offset (has (kind d) (a ∷ b ∷ c ∷ [])) d kd in
    λ i. (e ∙ λ j. fresh j || not (h j)) i || false

-- ---- the words of a written body, and what reading them gives

abbrev offset_words : Option ℤ → List ℕ
offset_words None = []
offset_words (Some z) = (4 * fields + residue fields z) ∷ []

offset-words : (t : Option ℤ) → words (offset_word t) ≡ offset_words t
offset-words None = words-none
offset-words (Some z) =
    let l = residue-lt fields z (omega arith) in
    let w = 4 * fields + residue fields z in
    ap words (sym (append-nil (big_endian 4 w))) ∙ words-cons w [] (omega arith) ∙ ap (λ (l : List ℕ). w ∷ l) words-none

offset_read : (t : Option ℤ) → offset_fits t ≡ true → offset_in (word_of 4 (offset_words t)) ≡ t
offset_read None h = refl
offset_read (Some z) h =
    let l = residue-lt fields z (omega arith) in
    let s = offset-small z h in
    let w = 4 * fields + residue fields z in
    let k = kind-word 4 (residue fields z) l in
    ap offset_in (word-here 4 w [] k) ∙ ap (λ (b : Bool). cond b None (Some (minutes (field w)))) (word-not-zero 4 w (omega arith) k)
    ∙ ap (λ (f : ℕ). Some (minutes f)) (field-word 4 (residue fields z) l) ∙ ap Some (signed-residue fields z (omega arith))

right-size : (m : Mark) → right_length (length (written m)) ≡ true
right-size m = ap right_length (written_size m) ∙ elim (is_some m.offset) as (λ b. right_length (cond b 16 12) ≡ true) [ true ↦ refl | false ↦ refl ]

module _ (m : Mark) (F : Fitting m) where
  abbrev high : ℕ
  high = 1 * fields + m.seconds / fields

  abbrev low : ℕ
  low = 2 * fields + m.seconds % fields

  abbrev third : ℕ
  third = 3 * fields + m.fraction

  abbrev the_words : List ℕ
  the_words = high ∷ low ∷ third ∷ offset_words m.offset

  small : m.seconds / fields < fields
  small = let h = F.seconds in omega arith

  words-written : words (written m) ≡ the_words
  words-written =
      let s = small in
      let f = F.fraction in
      words-cons high _ (omega arith)
      ∙ ap (λ (l : List ℕ). high ∷ l) (words-cons low _ (omega arith)
      ∙ ap (λ (l : List ℕ). low ∷ l) (words-cons third _ (omega arith) ∙ ap (λ (l : List ℕ). third ∷ l) (offset-words m.offset)))

  k₁ : kind high ≡ 1
  k₁ = kind-word 1 (m.seconds / fields) small

  k₂ : kind low ≡ 2
  k₂ = kind-word 2 (m.seconds % fields) (omega arith)

  k₃ : kind third ≡ 3
  k₃ = kind-word 3 m.fraction F.fraction

  good : any_bad [] the_words ≡ false
  good = none-bad high low third (offset_words m.offset) k₁ k₂ k₃ ∙ by m.offset F.offset
    where
      by : (t : Option ℤ) → offset_fits t ≡ true → any_bad (high ∷ low ∷ third ∷ []) (offset_words t) ≡ false
      by None h = refl
      by (Some z) h =
          let l = residue-lt fields z (omega arith) in
          let s = offset-small z h in
          good-offset high low third _ k₁ k₂ k₃ (kind-word 4 (residue fields z) l)
          (ap (λ (f : ℕ). offset_in_range (minutes f)) (field-word 4 (residue fields z) l)
          ∙ ap offset_in_range (signed-residue fields z (omega arith)) ∙ h)

  same : mark_in the_words ≡ m
  same =
      let e = offset_read m.offset F.offset in
      let one = first_word high low third (offset_words m.offset) k₁ k₂ k₃ in
      let two = second_word high low third (offset_words m.offset) k₁ k₂ k₃ in
      let three = third-word high low third (offset_words m.offset) k₁ k₂ k₃ in
      let four = fourth-word high low third (offset_words m.offset) k₁ k₂ k₃ in
      let h = F.seconds in
      let f = F.fraction in
      let seconds : field high * fields + field low ≡ m.seconds = omega arith in
      let fraction : field third ≡ m.fraction = omega arith in
      (λ i. mark_of (one i) (two i) (three i) (four i)) ∙ λ i. record { seconds = seconds i; fraction = fraction i; offset = e i }

-- ---- reading a written body gives its values

pub read-written : (m : Mark) → fits m ≡ true → read_answer (written m) ≡ done (values m)
unfolding read_answer
read-written m e =
    let F = fitting m e in
    let ws = words-written m F in
    let there = all_there _ _ _ (offset_words m.offset) (k₁ m F) (k₂ m F) (k₃ m F) in
    let whole = ap (λ (l : List ℕ). has 1 l && (has 2 l && has 3 l)) ws ∙ there in
    done_none (read_causes (written m)) _ (ap not (right-size m), (ap (any_bad []) ws ∙ good m F, (ap not whole, tt)))
    ∙ ap (λ (l : List ℕ). done (values (mark_in l))) ws ∙ ap (λ (n : Mark). done (values n)) (same m F)

-- at the two calls: what one wrote, the other reads
pub stored-read-written : (m : Mark) (o v : List ℕ) → Accepts (write_answer m (length o)) → 17 ≤ length v
    → values_output (take (length (written m)) (write_output m o)) v ≡ put 0 (values m) v
unfolding write_answer
stored-read-written m o v a h =
    let none = accepts-none (write_causes m (length o)) _ tt a in
    let said = sym (read-written m (not-false (fits m) none.0)) in
    let put' : write_output m o ≡ put 0 (written m) o = sym (if-done (done_none (write_causes m (length o)) _ none) _ o) in
    let body = ap (take (length (written m))) put' ∙ part-there 0 (written m) o (omega arith) _ refl in
    ap (λ (b : List ℕ). values_output b v) body
    ∙ sym (if-done (values-done (written m) said (length v) h) _ v)
    ∙ ap (λ (l : List ℕ). put 0 l v) (values-read (written m) said)
