-- A window tells of the numbers accepted and admits exactly those that may be accepted next, and no number is accepted again: on any links
-- that move it as the rule says. Assumes nothing.
use Rattle.prelude.proofs.{◌≡◌, refl, sym, ap, ap₂, ◌∙◌, subst, ◌↔◌, inl, inr, false, cond, ◌||◌, or_comm, List, [], ◌∷◌, ℕ}
use Rattle.prelude.proofs.{◌+◌, ◌-◌, ◌≤◌, ◌<◌, dec_lt, arith, eqb, ℕ_discrete, ne_eqb, eqb-true, eqb-false}
use Rattle.bits.specs.Bit.{bit}
use Rattle.bits.proofs.{Laws.bit-zero, Test.same_test}
use Rattle.answers.specs.Answer.{Answer, number_of, Accepts}
use Rattle.answers.proofs.First.{either}
use Rattle.history.specs.History.{state_after, accepted_by, among}
use Rattle.history.proofs.History.{kept-after}
use Rattle.window.specs.Window.{span, empty, Inside, known, Admitted, shifted, moved_up, marked, after}
use Rattle.window.specs.History.{highest_of, Eligible, Tells, Moves}
use Rattle.window.specs.declared.Window.{Window}
use Rattle.window.proofs.Word.{bit_shifted, bit-vacated, bit-set, bit-first-set}
use Rattle.window.proofs.Admits.{after-right, after-inside, admits-less, not-again}

-- ---- what a window that tells of the numbers accepted admits

above-highest : (s : ℕ) (ss : List ℕ) → highest_of ss < s → among s ss ≡ false
above-highest s [] h = refl
above-highest s (t ∷ ts) h = ap₂ ◌||◌ (ne_eqb s t (λ e. omega arith)) (above-highest s ts (omega arith))

module _ (w : Window) (ss : List ℕ) (T : Tells w ss) (s : ℕ) where
  known_among : Inside w s → known w s ≡ among s ss
  known_among i =
      let e : w.highest - (w.highest - s) ≡ s = omega arith in
      T.word (w.highest - s) (omega arith) ∙ ap (λ (t : ℕ). among t ss) e

  -- exactly the numbers that may be accepted next
  pub admits-exactly : Admitted w s ↔ Eligible ss s
  admits-exactly = (eligible, admitted)
    where
      eligible : Admitted w s → Eligible ss s
      eligible (one, inl l) = let e = T.highest in (one, omega arith, above-highest s ss (omega arith))
      eligible (one, inr i) = let e = T.highest in (one, omega arith, sym (known_among i.0) ∙ i.1)

      admitted : Eligible ss s → Admitted w s
      admitted (one, covered, new) = let e = T.highest in elim (dec_lt w.highest s) [
        | yes l ↦ (one, inl l)
        | no l ↦ let i : Inside w s = (omega arith, omega arith) in (one, inr (i, known_among i ∙ new))
      ]

-- ---- one more number accepted

module _ (w : Window) (ss : List ℕ) (s : ℕ) (T : Tells w ss) (one : 1 ≤ s) where
  abbrev H : ℕ
  H = w.highest

  from_one : among 0 (s ∷ ss) ≡ false
  from_one = ap₂ ◌||◌ (ne_eqb 0 s (λ e. omega arith)) T.from_one

  tells-right : H < s → Tells (moved_up w s) (s ∷ ss)
  tells-right l = record {
    distinct = (above-highest s ss (let e = T.highest in omega arith), T.distinct);
    from_one = from_one;
    highest = let e = T.highest in omega arith;
    word = λ k h.
        bit-first-set (shifted w.accepted (s - H)) k h ∙ or_comm (bit (shifted w.accepted (s - H)) k) (eqb k 0)
        ∙ ap₂ ◌||◌ (same_test k 0 (s - k) s (λ e. omega arith) (λ e. omega arith)) (moved k h);
  }
    where
      moved : (k : ℕ) → k < span → bit (shifted w.accepted (s - H)) k ≡ among (s - k) ss
      moved k h = elim (dec_lt k (s - H)) [
        | yes d ↦ bit-vacated w.accepted (s - H) k d h ∙ sym (above-highest (s - k) ss (let e = T.highest in omega arith))
        | no d ↦
            let j : ℕ = k - (s - H) in
            let e : k ≡ s - H + j = omega arith in
            let n : H - j ≡ s - k = omega arith in
            ap (bit (shifted w.accepted (s - H))) e ∙ bit_shifted w.accepted (s - H) j (omega arith) ∙ T.word j (omega arith)
            ∙ ap (λ (t : ℕ). among t ss) n
      ]

  tells-inside : Inside w s → known w s ≡ false → Tells (marked w s) (s ∷ ss)
  tells-inside i new = record {
    distinct = (sym (known_among w ss T s i) ∙ new, T.distinct);
    from_one = from_one;
    highest = let e = T.highest in omega arith;
    word = λ k h.
        bit-set w.accepted (H - s) k h ∙ or_comm (bit w.accepted k) (eqb k (H - s))
        ∙ ap₂ ◌||◌ (same_test k (H - s) (H - k) s (λ e. omega arith) (λ e. omega arith)) (T.word k h);
  }

tells-after : (w : Window) (ss : List ℕ) (s : ℕ) → Tells w ss → Admitted w s → Tells (after w s) (s ∷ ss)
tells-after w ss s T (one, inl l) = subst (λ (v : Window). Tells v (s ∷ ss)) (after-right w s l) (tells-right w ss s T one l)
tells-after w ss s T (one, inr i) =
    subst (λ (v : Window). Tells v (s ∷ ss)) (after-inside w s i.0.0) (tells-inside w ss s T one i.0 i.1)

tells-nothing : Tells empty []
tells-nothing = record { distinct = tt; from_one = refl; highest = refl; word = λ k h. bit-zero k }

-- ---- openings in turn

module _ {X Q : Type 0} (next : X → Q → X) (answer : X → Q → Answer) (number : X → Q → ℕ) (window : X → Window)
    (Good : X → Type 0) where
  module _ (x : X) (q : Q) (m : Moves next answer number window Good x q) where
    tells-step : (ss : List ℕ) → Tells (window x) ss
        → Tells (window (next x q)) (cond (eqb (number_of (answer x q)) 0) (number x q ∷ ss) ss)
    tells-step ss T = either (Tells (window (next x q))) (eqb (number_of (answer x q)) 0)
        (λ e. let a = eqb-true (number_of (answer x q)) 0 e in
        subst (λ (v : Window). Tells v (number x q ∷ ss)) (sym (m.moved a)) (tells-after (window x) ss (number x q) T (m.admitted a)))
        (λ e. subst (λ (v : Window). Tells v ss) (sym (m.kept (eqb-false (number_of (answer x q)) 0 e))) T)

    admitted-step : (s : ℕ) → Admitted (window (next x q)) s → Admitted (window x) s
    admitted-step s h = elim (ℕ_discrete (number_of (answer x q)) 0) [
      | yes a ↦ admits-less (window x) (number x q) s (subst (λ (v : Window). Admitted v s) (m.moved a) h)
      | no a ↦ subst (λ (v : Window). Admitted v s) (m.kept a) h
    ]

  module _ (moves : (x : X) (q : Q) → Good x → Moves next answer number window Good x q) (x : X) (g : Good x) where
    moves-after : (qs : List Q) (q : Q) → Moves next answer number window Good (state_after next x qs) q
    moves-after qs q = moves (state_after next x qs) q (kept-after next Good (λ y p h. (moves y p h).good) x g qs)

    -- from a window without numbers on, it tells of those accepted
    pub window-tells : window x ≡ empty → (qs : List Q) → Tells (window (state_after next x qs)) (accepted_by next x answer number qs)
    window-tells e [] = subst (λ (v : Window). Tells v []) (sym e) tells-nothing
    window-tells e (q ∷ qs) =
        tells-step (state_after next x qs) q (moves-after qs q) (accepted_by next x answer number qs) (window-tells e qs)

    -- what a link admits after some openings, it admitted before them
    admitted-before : (qs : List Q) (s : ℕ) → Admitted (window (state_after next x qs)) s → Admitted (window x) s
    admitted-before [] s h = h
    admitted-before (q ∷ qs) s h = admitted-before qs s (admitted-step (state_after next x qs) q (moves-after qs q) s h)

  -- a number that was accepted is not accepted again, whatever the window was and whatever is opened in between
  pub never-again : ((x : X) (q : Q) → Good x → Moves next answer number window Good x q) → (x : X) → Good x → (q : Q)
      → Accepts (answer x q) → (qs : List Q) (p : Q) → let y = state_after next (next x q) qs in
      number y p ≡ number x q → Accepts (answer y p) → ⊥
  never-again moves x g q d qs p e a =
      let m = moves x q g in
      let h = admitted-before moves (next x q) m.good qs _ ((moves-after moves (next x q) m.good qs p).admitted a) in
      not-again (window x) (number x q)
      (subst (λ (v : Window). Admitted v (number x q)) (m.moved d) (subst (λ (s : ℕ). Admitted (window (next x q)) s) e h))
