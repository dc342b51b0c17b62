-- What xor, and, or, shifts and cuts do to a bit; numbers are equal when their bits are. Assumes nothing.
use Rattle.prelude.proofs.{◌≡◌, refl, sym, ap, ap₂, ◌∙◌, Bool, true, false, not, ◌&&◌, ◌||◌, and_comm, ℕ, zero, suc, ◌+◌, ◌-◌, ◌*◌, ◌/◌}
use Rattle.prelude.proofs.{◌%◌, ◌^◌, ◌<◌, lt_of_lt_of_le, mod-lt, zero-lt-suc, le_of_suc-le-suc, not-suc-le-zero, div-eq_of_lt}
use Rattle.prelude.proofs.{div-add-mod', mul_assoc, pow-suc, div-one, add-one, one-add, arith, eqb, bit_xor, bit_and, bit_or, xor_shr, and_shr}
use Rattle.prelude.proofs.{or_shr, xor_mod, and_mod, or_mod, shifted_even, pow_mono, shr-shr, shr_lt, field, mod-mod-pow, pow-add, shl-shr}
use Rattle.prelude.proofs.{pow_pos, digits_div, digits_mod, digits_lt, lt-one}
use Rattle.bits.specs.Bit.{◌⊻◌, digit, odd, bit, number}

two_cases : (P : ℕ → Type 0) → P 0 → P 1 → (n : ℕ) → n < 2 → P n
two_cases P z o zero h = z
two_cases P z o (suc zero) h = o
two_cases P z o (suc (suc n)) h = absurd (not-suc-le-zero (le_of_suc-le-suc (le_of_suc-le-suc h)))

odd-xor : (a b : ℕ) → odd (bit_xor a b) ≡ (odd a ⊻ odd b)
odd-xor a b =
    ap (λ (n : ℕ). eqb n 1) (xor_mod a b 1)
    ∙ two_cases (λ (x : ℕ). eqb (bit_xor x (b % 2)) 1 ≡ (eqb x 1 ⊻ eqb (b % 2) 1)) refl
    (two_cases (λ (y : ℕ). eqb (bit_xor 1 y) 1 ≡ not (eqb y 1)) refl refl (b % 2) (mod-lt b (zero-lt-suc 1)))
    (a % 2) (mod-lt a (zero-lt-suc 1))

odd-and : (a b : ℕ) → odd (bit_and a b) ≡ (odd a && odd b)
odd-and a b =
    ap (λ (n : ℕ). eqb n 1) (and_mod a b 1)
    ∙ two_cases (λ (x : ℕ). eqb (bit_and x (b % 2)) 1 ≡ (eqb x 1 && eqb (b % 2) 1)) refl
    (two_cases (λ (y : ℕ). eqb (bit_and 1 y) 1 ≡ eqb y 1) refl refl (b % 2) (mod-lt b (zero-lt-suc 1)))
    (a % 2) (mod-lt a (zero-lt-suc 1))

odd-or : (a b : ℕ) → odd (bit_or a b) ≡ (odd a || odd b)
odd-or a b =
    ap (λ (n : ℕ). eqb n 1) (or_mod a b 1)
    ∙ two_cases (λ (x : ℕ). eqb (bit_or x (b % 2)) 1 ≡ (eqb x 1 || eqb (b % 2) 1)) refl
    (two_cases (λ (y : ℕ). eqb (bit_or 1 y) 1 ≡ true) refl refl (b % 2) (mod-lt b (zero-lt-suc 1)))
    (a % 2) (mod-lt a (zero-lt-suc 1))

pub bit-xor : (a b i : ℕ) → bit (bit_xor a b) i ≡ (bit a i ⊻ bit b i)
unfolding bit
bit-xor a b i = ap odd (xor_shr a b i) ∙ odd-xor (a / 2 ^ i) (b / 2 ^ i)

pub bit-and : (a b i : ℕ) → bit (bit_and a b) i ≡ (bit a i && bit b i)
unfolding bit
bit-and a b i = ap odd (and_shr a b i) ∙ odd-and (a / 2 ^ i) (b / 2 ^ i)

pub bit-or : (a b i : ℕ) → bit (bit_or a b) i ≡ (bit a i || bit b i)
unfolding bit
bit-or a b i = ap odd (or_shr a b i) ∙ odd-or (a / 2 ^ i) (b / 2 ^ i)

pub bit-shr : (x n i : ℕ) → bit (x / 2 ^ n) i ≡ bit x (n + i)
unfolding bit
bit-shr x n i = ap odd (shr-shr x n i)

-- the low bits stay
pub bit-low : (x w i : ℕ) → i < w → bit (x % 2 ^ w) i ≡ bit x i
unfolding bit
bit-low x w i h =
    ap (λ (n : ℕ). odd (x % 2 ^ n / 2 ^ i)) cut
    ∙ ap odd (field x (d + 1) i)
    ∙ ap (λ (n : ℕ). eqb n 1) (mod-mod-pow (x / 2 ^ i) d 1)
  where
    d : ℕ
    d = w - i - 1

    cut : w ≡ d + 1 + i
    cut = omega arith

pub bit-shl : (x n i : ℕ) → bit (x * 2 ^ n) (n + i) ≡ bit x i
unfolding bit
bit-shl x n i = ap odd (sym (shr-shr (x * 2 ^ n) n i) ∙ ap (λ (y : ℕ). y / 2 ^ i) (shl-shr x n))

pub bit-shl-low : (x n i : ℕ) → i < n → bit (x * 2 ^ n) i ≡ false
unfolding bit
bit-shl-low x n i h =
    ap (λ (m : ℕ). odd (x * 2 ^ m / 2 ^ i)) cut
    ∙ ap (λ (m : ℕ). odd (m / 2 ^ i))
    (ap (λ (m : ℕ). x * m) (pow-add 2 (suc d) i) ∙ sym (mul_assoc x (2 ^ suc d) (2 ^ i)))
    ∙ ap odd (shl-shr (x * 2 ^ suc d) i)
    ∙ ap (λ (m : ℕ). eqb m 1) (shifted_even x d)
  where
    d : ℕ
    d = n - i - 1

    cut : n ≡ suc d + i
    cut = omega arith

pub bit_high : (x i : ℕ) → x < 2 ^ i → bit x i ≡ false
unfolding bit
bit_high x i h = ap odd (div-eq_of_lt h)

pub bit-zero : (i : ℕ) → bit 0 i ≡ false
bit-zero i = bit_high 0 i (pow_pos i)

pub bit-suc : (x i : ℕ) → bit x (suc i) ≡ bit (x / 2) i
bit-suc x i = ap (bit x) (sym (one-add i)) ∙ sym (bit-shr x 1 i)

bit-first : (x : ℕ) → bit x 0 ≡ odd x
unfolding bit
bit-first x = ap odd (div-one x)

digit_lt : (b : Bool) → digit b < 2
digit_lt true = omega arith
digit_lt false = omega arith

odd-digit : (b : Bool) → eqb (digit b) 1 ≡ b
odd-digit true = refl
odd-digit false = refl

digit-odd : (x : ℕ) → digit (odd x) ≡ x % 2
digit-odd x = two_cases (λ (n : ℕ). digit (eqb n 1) ≡ n) refl refl (x % 2) (mod-lt x (zero-lt-suc 1))

pub number_lt : (n : ℕ) (f : ℕ → Bool) → number n f < 2 ^ n
number_lt zero f = omega arith
number_lt (suc n) f = rw pow-suc (digits_lt (number_lt n (λ i. f (suc i))) (digit_lt (f 0)))

pub bit-number : (n : ℕ) (f : ℕ → Bool) (i : ℕ) → i < n → bit (number n f) i ≡ f i
bit-number zero f i h = absurd (not-suc-le-zero h)
bit-number (suc n) f zero h =
    bit-first (number (suc n) f)
    ∙ ap (λ (m : ℕ). eqb m 1) (digits_mod (number n (λ i. f (suc i))) (digit_lt (f 0)))
    ∙ odd-digit (f 0)
bit-number (suc n) f (suc i) h =
    bit-suc (number (suc n) f) i
    ∙ ap (λ (m : ℕ). bit m i) (digits_div (number n (λ i. f (suc i))) (digit_lt (f 0)))
    ∙ bit-number n (λ i. f (suc i)) i (le_of_suc-le-suc h)

pub number_same : (n : ℕ) (f g : ℕ → Bool) → ((i : ℕ) → i < n → f i ≡ g i) → number n f ≡ number n g
number_same zero f g e = refl
number_same (suc n) f g e =
    ap₂ (λ (a b : ℕ). a * 2 + b)
    (number_same n (λ i. f (suc i)) (λ i. g (suc i)) (λ i h. e (suc i) (omega arith)))
    (ap digit (e 0 (omega arith)))

pub number-bits : (n x : ℕ) → x < 2 ^ n → number n (bit x) ≡ x
number-bits zero x h = sym (lt-one h)
number-bits (suc n) x h =
    ap₂ (λ (a b : ℕ). a * 2 + b)
    (number_same n (λ i. bit x (suc i)) (bit (x / 2)) (λ i _. bit-suc x i)
    ∙ number-bits n (x / 2) (shr_lt n 1 (rw add-one h)))
    (ap digit (bit-first x) ∙ digit-odd x)
    ∙ div-add-mod' x 2

-- ---- two numbers are equal when their bits are

lt-two-pow : (n : ℕ) → n < 2 ^ n
lt-two-pow zero = omega arith
lt-two-pow (suc n) = rw pow-suc (omega (arith, lt-two-pow n))

pub bits-same : (x y : ℕ) → ((i : ℕ) → bit x i ≡ bit y i) → x ≡ y
bits-same x y e =
    sym (number-bits (x + y) x (lt_of_lt_of_le (lt-two-pow x) (pow_mono (omega arith))))
    ∙ number_same (x + y) (bit x) (bit y) (λ i _. e i)
    ∙ number-bits (x + y) y (lt_of_lt_of_le (lt-two-pow y) (pow_mono (omega arith)))

pub ⊻-assoc : (a b c : Bool) → (a ⊻ b ⊻ c) ≡ (a ⊻ (b ⊻ c))
⊻-assoc false b c = refl
⊻-assoc true false c = refl
⊻-assoc true true false = refl
⊻-assoc true true true = refl

pub ⊻-comm : (a b : Bool) → (a ⊻ b) ≡ (b ⊻ a)
⊻-comm true true = refl
⊻-comm true false = refl
⊻-comm false true = refl
⊻-comm false false = refl

pub ⊻-left-comm : (a b c : Bool) → (a ⊻ (b ⊻ c)) ≡ (b ⊻ (a ⊻ c))
⊻-left-comm a b c = sym (⊻-assoc a b c) ∙ ap (λ (z : Bool). z ⊻ c) (⊻-comm a b) ∙ ⊻-assoc b a c

pub ⊻-again : (a b : Bool) → b ≡ (a ⊻ (a ⊻ b))
⊻-again false b = refl
⊻-again true false = refl
⊻-again true true = refl

pub ⊻-false : (a : Bool) → (a ⊻ false) ≡ a
⊻-false false = refl
⊻-false true = refl

pub and-⊻ : (a b c : Bool) → (a && (b ⊻ c)) ≡ ((a && b) ⊻ (a && c))
and-⊻ true b c = refl
and-⊻ false b c = refl

pub ⊻-and : (a b c : Bool) → ((a ⊻ b) && c) ≡ ((a && c) ⊻ (b && c))
⊻-and a b c = and_comm (a ⊻ b) c ∙ and-⊻ c a b ∙ ap₂ ◌⊻◌ (and_comm c a) (and_comm c b)

pub xor_assoc : (a b c : ℕ) → bit_xor (bit_xor a b) c ≡ bit_xor a (bit_xor b c)
xor_assoc a b c = bits-same _ _ (λ i. simp bit-xor (⊻-assoc (bit a i) (bit b i) (bit c i)))
