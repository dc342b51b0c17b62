-- Words: which are bad, by their kinds; what a list of words has, with one word more. Assumes nothing.
use Rattle.prelude.proofs.{◌≡◌, sym, ap, ◌∙◌, Bool, true, false, not, cond, ◌||◌, or-false, or_assoc, List, [], ◌∷◌, ◌++◌, append_assoc, ℕ}
use Rattle.prelude.proofs.{◌<◌, ◌≤◌, append-nil, ℕ_discrete, arith, eqb, eq-eqb, ne_eqb, le-leb, lt-leb}
use Rattle.body.specs.Words.{kind, field, minutes, offset_in_range, word_of, has, bad, any_bad}

-- ---- bad words

module _ (seen : Bool) (w : ℕ) where
  pub bad-zero : kind w < 1 → bad seen w ≡ true
  bad-zero h = simp (eq-eqb (kind w) 0 (omega arith))

  pub bad-needed : 1 ≤ kind w → kind w < 4 → bad seen w ≡ seen
  bad-needed h l = simp (ne_eqb (kind w) 0 (omega arith), le-leb (kind w) 4 (omega arith), ne_eqb (kind w) 4 (omega arith), or-false seen)

  pub bad-offset : kind w ≡ 4 → bad seen w ≡ (seen || not (offset_in_range (minutes (field w))))
  bad-offset e = simp (ne_eqb (kind w) 0 (omega arith), le-leb (kind w) 4 (omega arith), eq-eqb (kind w) 4 e)

  pub bad-skipped : 4 ≤ kind w → (kind w ≡ 4 → ⊥) → bad seen w ≡ false
  bad-skipped h n = simp (ne_eqb (kind w) 0 (omega arith), lt-leb (kind w) 4 (omega arith), ne_eqb (kind w) 4 n)

-- with more words behind them, and with one more
pub any-append : (before ws vs : List ℕ) → any_bad before (ws ++ vs) ≡ (any_bad before ws || any_bad (before ++ ws) vs)
any-append before [] vs = ap (λ (l : List ℕ). any_bad l vs) (sym (append-nil before))
any-append before (w ∷ ws) vs = simp (any-append (before ++ (w ∷ [])) ws vs, append_assoc, or_assoc)

pub any-more : (before ws : List ℕ) (w : ℕ) → any_bad before (ws ++ (w ∷ [])) ≡ (any_bad before ws || bad (has (kind w) (before ++ ws)) w)
any-more before ws w = any-append before ws (w ∷ []) ∙ ap (λ (b : Bool). any_bad before ws || b) (or-false _)

-- ---- the first word of a kind

module _ (k w : ℕ) (ws : List ℕ) where
  pub word-here : kind w ≡ k → word_of k (w ∷ ws) ≡ w
  word-here e = simp (eq-eqb (kind w) k e)

  pub word-later : (kind w ≡ k → ⊥) → word_of k (w ∷ ws) ≡ word_of k ws
  word-later n = simp (ne_eqb (kind w) k n)

-- a word of a kind above 0 is not 0
pub word-not-zero : (k w : ℕ) → 0 < k → kind w ≡ k → eqb w 0 ≡ false
word-not-zero k w h e = ne_eqb w 0 (λ z. absurd (omega arith))

-- with one word more, of that kind or another
pub word_more : (k : ℕ) (ws : List ℕ) (w : ℕ) → 0 < k → kind w ≡ k → word_of k (ws ++ (w ∷ [])) ≡ cond (eqb (word_of k ws) 0) w (word_of k ws)
word_more k [] w h e = word-here k w [] e
word_more k (v ∷ ws) w h e = elim (ℕ_discrete (kind v) k) [
  | yes d ↦ simp (eq-eqb (kind v) k d, word-not-zero k v h d)
  | no n ↦ simp (ne_eqb (kind v) k n) (word_more k ws w h e)
]

pub word_same : (k : ℕ) (ws : List ℕ) (w : ℕ) → (kind w ≡ k → ⊥) → word_of k (ws ++ (w ∷ [])) ≡ word_of k ws
word_same k [] w n = word-later k w [] n
word_same k (v ∷ ws) w n = ap (cond (eqb (kind v) k) v) (word_same k ws w n)
