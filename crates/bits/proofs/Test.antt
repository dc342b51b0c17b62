-- Tests: what holds of their values, and a rule proved at each number below a limit, or at each choice of four bits, by one of them.
-- Assumes nothing.
use Rattle.prelude.proofs.{◌≡◌, refl, sym, ◌∙◌, subst, Bool, true, false, ◌&&◌, ◌||◌, Bool-beq, false≢true, ℕ, zero, suc, ◌<◌}
use Rattle.prelude.proofs.{not-suc-le-zero, dec_lt, ℕ_discrete, arith, T, eqb, eqb→eq, eq-eqb, ne_eqb}

pub and_left : (a b : Bool) → T (a && b) → T a
and_left true b t = tt
and_left false b t = t

pub and_right : (a b : Bool) → T (a && b) → T b
and_right true b t = t
and_right false b t = absurd t

pub neither : (a b : Bool) → (a || b) ≡ false → (a ≡ false) × (b ≡ false)
neither false b h = (refl, h)
neither true b h = absurd (false≢true (sym h))

-- two tests of facts that follow from each other
pub same_test : (a b c d : ℕ) → (a ≡ b → c ≡ d) → (c ≡ d → a ≡ b) → eqb a b ≡ eqb c d
same_test a b c d f g = elim (ℕ_discrete a b) [
  | yes e ↦ eq-eqb a b e ∙ sym (eq-eqb c d (f e))
  | no n ↦ ne_eqb a b n ∙ sym (ne_eqb c d (λ e. n (g e)))
]

-- the test f passes at each number below n
abbrev pub each : ℕ → (ℕ → Bool) → Bool
each zero f = true
each (suc n) f = f n && each n f

pub below : (n : ℕ) (f : ℕ → Bool) → T (each n f) → (i : ℕ) → i < n → T (f i)
below zero f t i h = absurd (not-suc-le-zero h)
below (suc n) f t i h = elim (dec_lt i n) [
  | yes l ↦ below n f (and_right (f n) (each n f) t) i l
  | no l ↦
      let e : n ≡ i = omega arith in subst (λ (k : ℕ). T (f k)) e (and_left (f n) (each n f) t)
]

-- two functions agree below n; two of two numbers, below m and n
pub agree : (n : ℕ) (f g : ℕ → ℕ) → T (each n (λ i. eqb (f i) (g i))) → (i : ℕ) → i < n → f i ≡ g i
agree n f g t i h = eqb→eq (f i) (g i) (below n (λ i. eqb (f i) (g i)) t i h)

pub agree² : (m n : ℕ) (f g : ℕ → ℕ → ℕ) → T (each m (λ k. each n (λ i. eqb (f k i) (g k i)))) → (k i : ℕ) → k < m → i < n → f k i ≡ g k i
agree² m n f g t k i h l = agree n (f k) (g k) (below m (λ k. each n (λ i. eqb (f k i) (g k i))) t k h) i l

pub beq→eq : (a b : Bool) → T (Bool-beq a b) → a ≡ b
beq→eq true true t = refl
beq→eq true false t = absurd t
beq→eq false true t = absurd t
beq→eq false false t = refl

-- two functions of one, two, three, four bits agree
abbrev agree₁ : (f g : Bool → Bool) → Bool
agree₁ f g = Bool-beq (f true) (g true) && Bool-beq (f false) (g false)

abbrev agree₂ : (f g : Bool → Bool → Bool) → Bool
agree₂ f g = agree₁ (f true) (g true) && agree₁ (f false) (g false)

abbrev agree₃ : (f g : Bool → Bool → Bool → Bool) → Bool
agree₃ f g = agree₂ (f true) (g true) && agree₂ (f false) (g false)

abbrev pub agree₄ : (f g : Bool → Bool → Bool → Bool → Bool) → Bool
agree₄ f g = agree₃ (f true) (g true) && agree₃ (f false) (g false)

pick : (p : Bool → Bool) → T (p true && p false) → (a : Bool) → T (p a)
pick p t true = and_left (p true) (p false) t
pick p t false = and_right (p true) (p false) t

pub four-bits : (f g : Bool → Bool → Bool → Bool → Bool) → T (agree₄ f g) → (a b c d : Bool) → f a b c d ≡ g a b c d
four-bits f g t a b c d =
    beq→eq (f a b c d) (g a b c d)
    (pick (λ d. Bool-beq (f a b c d) (g a b c d))
    (pick (λ c. agree₁ (f a b c) (g a b c))
    (pick (λ b. agree₂ (f a b) (g a b))
    (pick (λ a. agree₃ (f a) (g a)) t a) b) c) d)

-- a rule at each number below four
pub four : (P : ℕ → Type 0) → P 0 → P 1 → P 2 → P 3 → (j : ℕ) → j < 4 → P j
four P p q r s zero h = p
four P p q r s (suc zero) h = q
four P p q r s (suc (suc zero)) h = r
four P p q r s (suc (suc (suc zero))) h = s
four P p q r s (suc (suc (suc (suc j)))) h = absurd (omega arith)
