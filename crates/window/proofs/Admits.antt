-- A window admits the numbers that no cause refuses, none that it did not admit before it moved, and an accepted one never again.
-- Assumes nothing.
use Rattle.prelude.proofs.{◌≡◌, refl, sym, ap, ap₂, ◌∙◌, inl, inr, Bool, false, cond, ◌&&◌, ◌||◌, ℕ, ◌+◌, ◌-◌, ◌^◌, ◌≤◌, ◌<◌}
use Rattle.prelude.proofs.{dec_lt, arith, eqb, leb, ltb, or_lt, eqb-false, leb-false, ne_eqb, le-leb, lt-leb, lt-ltb, le-ltb}
use Rattle.prelude.proofs.{ltb-true, ltb-false}
use Rattle.bits.proofs.Test.{neither}
use Rattle.answers.proofs.First.{either}
use Rattle.window.specs.Window.{span, known, New, Admitted, below, repeated, shifted, moved_up, marked, after}
use Rattle.window.specs.declared.Window.{Window}
use Rattle.window.proofs.Word.{shifted-lt, clear-set, clear-first-set, clear-shifted}

-- ---- admitted exactly where no cause refuses

module _ (w : Window) (s : ℕ) where
  pub passes-admitted : below w s ≡ false → repeated w s ≡ false → Admitted w s
  passes-admitted b r =
      let n = neither (eqb s 0) (leb (s + span) w.highest) b in
      let z = eqb-false s 0 n.0 in
      let left = leb-false (s + span) w.highest n.1 in
      elim (dec_lt w.highest s) [
        | yes l ↦ (omega arith, inl l)
        | no l ↦
            (omega arith, inr ((omega arith, left), sym (ap (λ (t : Bool). t && known w s) (le-leb s w.highest (omega arith))) ∙ r))
      ]

  pub admitted-passes : Admitted w s → (below w s ≡ false) × (repeated w s ≡ false)
  admitted-passes a = (
    ap₂ ◌||◌ (ne_eqb s 0 (λ e. let o = a.0 in omega arith)) (lt-leb (s + span) w.highest (covered a.1)),
    new a.1,
  )
    where
      covered : New w s → w.highest < s + span
      covered (inl l) = omega arith
      covered (inr i) = i.0.1

      new : New w s → repeated w s ≡ false
      new (inl l) = ap (λ (t : Bool). t && known w s) (lt-leb s w.highest l)
      new (inr i) = ap₂ ◌&&◌ (le-leb s w.highest i.0.0) i.1

-- ---- moved

module _ (w : Window) (t : ℕ) where
  pub after-right : w.highest < t → moved_up w t ≡ after w t
  after-right l = ap (λ (b : Bool). cond b (moved_up w t) (marked w t)) (sym (lt-ltb w.highest t l))

  pub after-inside : t ≤ w.highest → marked w t ≡ after w t
  after-inside l = ap (λ (b : Bool). cond b (moved_up w t) (marked w t)) (sym (le-ltb w.highest t l))

  -- what holds of both holds of the window with t accepted
  pub either_way : (P : Window → Type 0) → (w.highest < t → P (moved_up w t)) → (t ≤ w.highest → P (marked w t)) → P (after w t)
  either_way P r i = either P (ltb w.highest t) (λ e. r (ltb-true w.highest t e)) (λ e. i (ltb-false w.highest t e))

  -- what it admits then, it admitted before
  module _ (s : ℕ) where
    pub admits-less : Admitted (after w t) s → Admitted w s
    admits-less = either_way (λ (v : Window). Admitted v s → Admitted w s) (λ l a. (a.0, right l a.1)) (λ l a. (a.0, inside a.1))
      where
        right : w.highest < t → New (moved_up w t) s → New w s
        right l (inl r) = inl (omega arith)
        right l (inr r) = elim (dec_lt w.highest s) [
          | yes h ↦ inl h
          | no h ↦
              let i = r.0 in
              inr (
                (omega arith, omega arith),
                clear-shifted w.accepted _ (t - s) (w.highest - s) r.1 (omega arith) (omega arith),
              )
        ]

        inside : New (marked w t) s → New w s
        inside (inl r) = inl r
        inside (inr r) =
            let i = r.0 in
            inr (r.0, (clear-set w.accepted (w.highest - t) (w.highest - s) (omega arith) r.1).0)

  -- the accepted number itself is not admitted
  pub not-again : Admitted (after w t) t → ⊥
  not-again = either_way (λ (v : Window). Admitted v t → ⊥) (λ l a. right a.1) (λ l a. inside l a.1)
    where
      right : New (moved_up w t) t → ⊥
      right (inl r) = omega arith
      right (inr r) =
          eqb-false (t - t) 0 (clear-first-set (shifted w.accepted (t - w.highest)) (t - t) (omega arith) r.1).1 (omega arith)

      inside : t ≤ w.highest → New (marked w t) t → ⊥
      inside l (inl r) = omega arith
      inside l (inr r) =
          let i = r.0 in
          let k : ℕ = w.highest - t in
          eqb-false k k (clear-set w.accepted k k (omega arith) r.1).1 refl

  -- ---- what its fields can hold

  pub after-highest : (n : ℕ) → w.highest < n → t < n → (after w t).highest < n
  after-highest n h l = either_way (λ (v : Window). v.highest < n) (λ _. l) (λ _. h)

  pub after-word : w.accepted < 2 ^ span → (after w t).accepted < 2 ^ span
  after-word h =
      either_way (λ (v : Window). v.accepted < 2 ^ span) (λ _. or_lt span _ 1 (shifted-lt w.accepted (t - w.highest)) (omega arith))
      (λ _. or_lt span w.accepted _ h (shifted-lt 1 (w.highest - t)))
