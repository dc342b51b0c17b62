-- What reading answers does not depend on the order of a body's words, nor on words that are skipped. Assumes nothing.
use Rattle.prelude.proofs.{◌≡◌, refl, sym, ap, ap₂, ◌∙◌, Bool, true, false, not, cond, ◌&&◌, ◌||◌, or-true, or-false, or_assoc, or_comm}
use Rattle.prelude.proofs.{false≢true, List, [], ◌∷◌, ◌++◌, Permᴰ, Permᴰ-nil, Permᴰ-cons, Permᴰ-swap, Permᴰ-trans}
use Rattle.prelude.proofs.{ℕ, ◌<◌, ◌≤◌, ℕ_discrete, dec_le, arith, eqb, leb, eq-eqb, ne_eqb, le-leb, lt-leb, length}
use Rattle.blocks.proofs.Same.{neither-true}
use Rattle.answers.specs.Answer.{Answer, done, refused}
use Rattle.body.specs.Words.{kind, words, word_of, has, bad, any_bad, unskipped}
use Rattle.body.specs.Mark.{mark_of, values}
use Rattle.body.specs.Entry.{right_length, read_answer}
use Rattle.body.proofs.Words.{bad-zero, bad-needed, bad-offset, bad-skipped}
use Rattle.body.proofs.Words.{word-here, word-later, word-not-zero, word_more, word_same}

-- ---- which kinds a list has

-- with a word more
pub has_more : (k : ℕ) (ws : List ℕ) (w : ℕ) → 0 < k → has k (ws ++ (w ∷ [])) ≡ (has k ws || eqb (kind w) k)
has_more k ws w h = elim (ℕ_discrete (kind w) k) [
  | yes e ↦
      ap (λ (x : ℕ). not (eqb x 0)) (word_more k ws w h e) ∙ by (word_of k ws) (word-not-zero k w h e)
      ∙ ap (λ (b : Bool). has k ws || b) (sym (eq-eqb (kind w) k e))
  | no n ↦
      ap (λ (x : ℕ). not (eqb x 0)) (word_same k ws w n) ∙ sym (or-false (has k ws))
      ∙ ap (λ (b : Bool). has k ws || b) (sym (ne_eqb (kind w) k n))
]
  where
    by : (x : ℕ) → eqb w 0 ≡ false → not (eqb (cond (eqb x 0) w x) 0) ≡ (not (eqb x 0) || true)
    by x z = elim (ℕ_discrete x 0) [
      | yes e ↦ simp (eq-eqb x 0 e, z)
      | no n ↦ simp (ne_eqb x 0 n)
    ]

-- two lists have the same of the kinds 1 to 4
abbrev Alike : List ℕ → List ℕ → Type 0
Alike a b = (k : ℕ) → 0 < k → k ≤ 4 → has k a ≡ has k b

alike-more : (a b : List ℕ) (w : ℕ) → Alike a b → Alike (a ++ (w ∷ [])) (b ++ (w ∷ []))
alike-more a b w e k h l = has_more k a w h ∙ ap (λ (t : Bool). t || eqb (kind w) k) (e k h l) ∙ sym (has_more k b w h)

bad-alike : (a b : List ℕ) (w : ℕ) → Alike a b → bad (has (kind w) a) w ≡ bad (has (kind w) b) w
bad-alike a b w e = elim (dec_le 1 (kind w)) [
  | yes h ↦ elim (dec_le (kind w) 4) [
    | yes l ↦ ap (λ (t : Bool). bad t w) (e (kind w) h l)
    | no n ↦ bad-skipped _ w (omega arith) (omega arith) ∙ sym (bad-skipped _ w (omega arith) (omega arith))
  ]
  | no n ↦ bad-zero _ w (omega arith) ∙ sym (bad-zero _ w (omega arith))
]

any-alike : (a b ws : List ℕ) → Alike a b → any_bad a ws ≡ any_bad b ws
any-alike a b [] e = refl
any-alike a b (w ∷ ws) e = ap₂ ◌||◌ (bad-alike a b w e) (any-alike (a ++ (w ∷ [])) (b ++ (w ∷ [])) ws (alike-more a b w e))

-- ---- the order of words

-- a kind 1 to 4 for the second time is bad, and kind 0 in any case
pub bad-again : (w : ℕ) → kind w ≤ 4 → bad true w ≡ true
bad-again w h = elim (dec_le 1 (kind w)) [
  | yes l ↦ elim (ℕ_discrete (kind w) 4) [
    | yes e ↦ bad-offset true w e
    | no n ↦ bad-needed true w l (omega arith)
  ]
  | no n ↦ bad-zero true w (omega arith)
]

module _ (before : List ℕ) where
  -- x, then y behind it
  abbrev pair : ℕ → ℕ → Bool
  pair x y = bad (has (kind x) before) x || bad (has (kind y) (before ++ (x ∷ []))) y

  behind : (x y : ℕ) (b : Bool) → eqb (kind x) (kind y) ≡ b → bad (has (kind y) (before ++ (x ∷ []))) y ≡ bad (has (kind y) before || b) y
  behind x y b e = elim (dec_le 1 (kind y)) [
    | yes h ↦ ap (λ (t : Bool). bad t y) (has_more (kind y) before x h ∙ ap (λ (b : Bool). has (kind y) before || b) e)
    | no n ↦ bad-zero _ y (omega arith) ∙ sym (bad-zero _ y (omega arith))
  ]

  -- of one kind: bad where the kind is not skipped
  same_kind : (x y : ℕ) → kind x ≡ kind y → pair x y ≡ leb (kind x) 4
  same_kind x y e =
      ap (λ (b : Bool). bad (has (kind x) before) x || b)
      (behind x y true (eq-eqb _ _ e) ∙ ap (λ (t : Bool). bad t y) (or-true (has (kind y) before)))
      ∙ elim (dec_le (kind x) 4) [
        | yes h ↦
            ap (λ (b : Bool). bad (has (kind x) before) x || b) (bad-again y (omega arith))
            ∙ or-true (bad (has (kind x) before) x) ∙ sym (le-leb (kind x) 4 h)
        | no n ↦
            ap₂ ◌||◌ (bad-skipped _ x (omega arith) (omega arith)) (bad-skipped true y (omega arith) (omega arith))
            ∙ sym (lt-leb (kind x) 4 (omega arith))
      ]

  swap-pair : (x y : ℕ) → pair x y ≡ pair y x
  swap-pair x y = elim (ℕ_discrete (kind x) (kind y)) [
    | yes e ↦ same_kind x y e ∙ ap (λ (k : ℕ). leb k 4) e ∙ sym (same_kind y x (sym e))
    | no n ↦
        ap (λ (b : Bool). bad (has (kind x) before) x || b)
        (behind x y false (ne_eqb _ _ n) ∙ ap (λ (t : Bool). bad t y) (or-false (has (kind y) before)))
        ∙ or_comm (bad (has (kind x) before) x) (bad (has (kind y) before) y)
        ∙ sym (ap (λ (b : Bool). bad (has (kind y) before) y || b)
        (behind y x false (ne_eqb _ _ (λ e. n (sym e))) ∙ ap (λ (t : Bool). bad t x) (or-false (has (kind x) before))))
  ]

  alike-swap : (x y : ℕ) → Alike ((before ++ (x ∷ [])) ++ (y ∷ [])) ((before ++ (y ∷ [])) ++ (x ∷ []))
  alike-swap x y k h l =
      has_more k (before ++ (x ∷ [])) y h ∙ ap (λ (t : Bool). t || eqb (kind y) k) (has_more k before x h)
      ∙ or_assoc (has k before) (eqb (kind x) k) (eqb (kind y) k)
      ∙ ap (λ (t : Bool). has k before || t) (or_comm (eqb (kind x) k) (eqb (kind y) k))
      ∙ sym (has_more k (before ++ (y ∷ [])) x h ∙ ap (λ (t : Bool). t || eqb (kind x) k) (has_more k before y h)
      ∙ or_assoc (has k before) (eqb (kind y) k) (eqb (kind x) k))

  any_swap : (x y : ℕ) (ws : List ℕ) → any_bad before (x ∷ y ∷ ws) ≡ any_bad before (y ∷ x ∷ ws)
  any_swap x y ws =
      sym (or_assoc (bad (has (kind x) before) x) (bad (has (kind y) (before ++ (x ∷ []))) y) _)
      ∙ ap₂ ◌||◌ (swap-pair x y) (any-alike _ _ ws (alike-swap x y))
      ∙ or_assoc (bad (has (kind y) before) y) (bad (has (kind x) (before ++ (y ∷ []))) x) _

-- in another order

any-perm : (before : List ℕ) {ws vs : List ℕ} → Permᴰ ws vs → any_bad before ws ≡ any_bad before vs
any-perm before Permᴰ-nil = refl
any-perm before (Permᴰ-cons {a = a} {l₂ = l} e p) =
    ap (λ (b : Bool). bad (has (kind a) before) a || b) (any-perm (before ++ (a ∷ [])) p) ∙ ap (λ (w : ℕ). any_bad before (w ∷ l)) e
any-perm before (Permᴰ-swap {a = a} {b = b} {l = l} e f) = any_swap before a b l ∙ λ i. any_bad before (f i ∷ e i ∷ l)
any-perm before (Permᴰ-trans p q) = any-perm before p ∙ any-perm before q

module _ (k : ℕ) (h : 0 < k) (l : k ≤ 4) where
  word-swap : (before : List ℕ) (a b : ℕ) (ws : List ℕ) → any_bad before (a ∷ b ∷ ws) ≡ false
      → word_of k (a ∷ b ∷ ws) ≡ word_of k (b ∷ a ∷ ws)
  word-swap before a b ws e = elim (ℕ_discrete (kind a) k) [
    | yes p ↦ elim (ℕ_discrete (kind b) k) [
      | yes q ↦
          let both = or_assoc (bad (has (kind a) before) a) (bad (has (kind b) (before ++ (a ∷ []))) b) _ ∙ e in
          let clash = same_kind before a b (p ∙ sym q) ∙ le-leb (kind a) 4 (omega arith) in
          absurd (false≢true (sym (neither-true (pair before a b) _ both).0 ∙ clash))
      | no m ↦ word-here k a (b ∷ ws) p ∙ sym (word-later k b (a ∷ ws) m ∙ word-here k a ws p)
    ]
    | no n ↦ word-later k a (b ∷ ws) n ∙ ap (cond (eqb (kind b) k) b) (sym (word-later k a ws n))
  ]

  word-perm : (before : List ℕ) {ws vs : List ℕ} → Permᴰ ws vs → any_bad before ws ≡ false → word_of k ws ≡ word_of k vs
  word-perm before Permᴰ-nil e = refl
  word-perm before (Permᴰ-cons {a = a} {l₂ = vs} d p) e =
      ap (cond (eqb (kind a) k) a) (word-perm (before ++ (a ∷ [])) p (neither-true (bad (has (kind a) before) a) _ e).1)
      ∙ ap (λ (w : ℕ). word_of k (w ∷ vs)) d
  word-perm before (Permᴰ-swap {a = a} {b = b} {l = ws} d f) e = word-swap before a b ws e ∙ λ i. word_of k (f i ∷ d i ∷ ws)
  word-perm before (Permᴰ-trans p q) e = word-perm before p e ∙ word-perm before q (sym (any-perm before p) ∙ e)

-- ---- skipped words

any-unskipped : (a b ws : List ℕ) → Alike a b → any_bad a ws ≡ any_bad b (unskipped ws)
any-unskipped a b [] e = refl
any-unskipped a b (w ∷ ws) e = elim (dec_le (kind w) 4) [
  | yes h ↦
      ap₂ ◌||◌ (bad-alike a b w e) (any-unskipped (a ++ (w ∷ [])) (b ++ (w ∷ [])) ws (alike-more a b w e))
      ∙ ap (λ (t : Bool). any_bad b (cond t (w ∷ unskipped ws) (unskipped ws))) (sym (le-leb (kind w) 4 h))
  | no n ↦
      ap₂ ◌||◌ (bad-skipped (has (kind w) a) w (omega arith) (omega arith))
      (any-unskipped (a ++ (w ∷ [])) b ws (λ k h l. ap (λ (x : ℕ). not (eqb x 0)) (word_same k a w (omega arith)) ∙ e k h l))
      ∙ ap (λ (t : Bool). any_bad b (cond t (w ∷ unskipped ws) (unskipped ws))) (sym (lt-leb (kind w) 4 (omega arith)))
]

word-unskipped : (k : ℕ) → k ≤ 4 → (ws : List ℕ) → word_of k ws ≡ word_of k (unskipped ws)
word-unskipped k h [] = refl
word-unskipped k h (w ∷ ws) = elim (dec_le (kind w) 4) [
  | yes l ↦ simp (le-leb (kind w) 4 l) (ap (cond (eqb (kind w) k) w) (word-unskipped k h ws))
  | no n ↦ simp (lt-leb (kind w) 4 (omega arith)) (word-later k w ws (omega arith) ∙ word-unskipped k h ws)
]

-- ---- the answer

-- what it is of four words, where none is bad
abbrev answer_of : ℕ → ℕ → ℕ → ℕ → Answer
answer_of h l f o = cond (not (not (eqb h 0) && (not (eqb l 0) && not (eqb f 0)))) (refused 32) (done (values (mark_of h l f o)))

-- a refusal where t holds, and else the same
unless : (t u : Bool) (x y : Answer) → t ≡ u → (t ≡ false → x ≡ y) → cond t (refused 31) x ≡ cond u (refused 31) y
unless true u x y e f = ap (λ (b : Bool). cond b (refused 31) y) e
unless false u x y e f = f refl ∙ ap (λ (b : Bool). cond b (refused 31) y) e

same_answer : (a b : List ℕ) → right_length (length a) ≡ right_length (length b) → any_bad [] (words a) ≡ any_bad [] (words b)
    → ((k : ℕ) → 0 < k → k ≤ 4 → any_bad [] (words a) ≡ false → word_of k (words a) ≡ word_of k (words b)) → read_answer a ≡ read_answer b
unfolding read_answer
same_answer a b el eb ew =
    let rest = unless (any_bad [] (words a)) (any_bad [] (words b)) _ _ eb (λ n.
    let word : (k : ℕ) → 0 < k → k ≤ 4 → word_of k (words a) ≡ word_of k (words b) = λ k h l. ew k h l n in
    let one = word 1 (omega arith) (omega arith) in
    let two = word 2 (omega arith) (omega arith) in
    let three = word 3 (omega arith) (omega arith) in
    let four = word 4 (omega arith) (omega arith) in
    λ i. answer_of (one i) (two i) (three i) (four i)) in
    λ i. cond (not (el i)) (refused 30) (rest i)

-- the order of a body's words does not change what reading it answers
pub order-free : (a b : List ℕ) → length a ≡ length b → Permᴰ (words a) (words b) → read_answer a ≡ read_answer b
order-free a b l p = same_answer a b (ap right_length l) (any-perm [] p) (λ k h m e. word-perm k h m [] p e)

-- nor do words that are skipped, as long as both lengths are right
pub skipped-free : (a b : List ℕ) → right_length (length a) ≡ true → right_length (length b) ≡ true
    → unskipped (words a) ≡ unskipped (words b) → read_answer a ≡ read_answer b
skipped-free a b ha hb e =
    same_answer a b (ha ∙ sym hb)
    (any-unskipped [] [] (words a) (λ k h l. refl) ∙ ap (any_bad []) e ∙ sym (any-unskipped [] [] (words b) (λ k h l. refl)))
    (λ k h l n. word-unskipped k l (words a) ∙ ap (word_of k) e ∙ sym (word-unskipped k l (words b)))
