-- What shifting a window's word and setting a bit of it do to its bits. Assumes nothing.
use Rattle.prelude.proofs.{◌≡◌, refl, sym, ap, ◌∙◌, Bool, false, ◌||◌, ℕ, zero, suc, ◌+◌, ◌-◌, ◌*◌, ◌%◌, ◌^◌, ◌≤◌, ◌<◌, dec_lt, arith, eqb}
use Rattle.prelude.proofs.{eqb-suc-zero, bit_or, pow-add, mul_assoc, add-zero, digits_mod, pow_pos, pow_mono, lt_of_lt_of_le, mod-lt, ne_eqb}
use Rattle.bits.specs.Bit.{bit}
use Rattle.bits.proofs.Laws.{bit_high, bit-low, bit-shl, bit-shl-low, bit-or, bit-zero, bit-suc}
use Rattle.bits.proofs.Test.{same_test, neither}
use Rattle.window.specs.Window.{span, shifted}

-- from bit 64 up it has none
pub bit_past : (x k : ℕ) → x < 2 ^ span → span ≤ k → bit x k ≡ false
bit_past x k fits h = bit_high x k (lt_of_lt_of_le fits (pow_mono h))

-- ---- shifted by d places: bit k goes to place d + k, and below d none is set; by 64 places or more the word is cleared

pub bit_shifted : (x d k : ℕ) → d + k < span → bit (shifted x d) (d + k) ≡ bit x k
unfolding shifted
bit_shifted x d k h = bit-low (x * 2 ^ d) span (d + k) h ∙ bit-shl x d k

pub bit-vacated : (x d k : ℕ) → k < d → k < span → bit (shifted x d) k ≡ false
unfolding shifted
bit-vacated x d k l h = bit-low (x * 2 ^ d) span k h ∙ bit-shl-low x d k l

pub shifted_out : (x d : ℕ) → span ≤ d → 0 ≡ shifted x d
unfolding shifted
shifted_out x d h =
    let e : d ≡ d - span + span = omega arith in
    let p : x * 2 ^ (d - span + span) ≡ x * 2 ^ (d - span) * 2 ^ span + 0 =
    ap (λ (n : ℕ). x * n) (pow-add 2 (d - span) span) ∙ sym (mul_assoc x (2 ^ (d - span)) (2 ^ span)) ∙ sym (add-zero _) in
    sym (ap (λ (n : ℕ). x * 2 ^ n % 2 ^ span) e ∙ ap (λ (n : ℕ). n % 2 ^ span) p ∙ digits_mod (x * 2 ^ (d - span)) (pow_pos span))

pub shifted-lt : (x d : ℕ) → shifted x d < 2 ^ span
unfolding shifted
shifted-lt x d = mod-lt (x * 2 ^ d) (pow_pos span)

-- ---- bit j set

bit-one : (i : ℕ) → bit 1 i ≡ eqb i 0
unfolding bit
bit-one zero = refl
bit-one (suc i) = bit-suc 1 i ∙ bit-zero i ∙ sym (eqb-suc-zero i)

bit-alone : (j k : ℕ) → k < span → bit (shifted 1 j) k ≡ eqb k j
bit-alone j k h = elim (dec_lt k j) [
  | yes l ↦ bit-vacated 1 j k l h ∙ sym (ne_eqb k j (λ e. omega arith))
  | no l ↦
      let e : k ≡ j + (k - j) = omega arith in
      ap (bit (shifted 1 j)) e ∙ bit_shifted 1 j (k - j) (omega arith) ∙ bit-one (k - j)
      ∙ same_test (k - j) 0 k j (λ d. omega arith) (λ d. omega arith)
]

pub bit-set : (x j k : ℕ) → k < span → bit (bit_or x (shifted 1 j)) k ≡ (bit x k || eqb k j)
bit-set x j k h = bit-or x (shifted 1 j) k ∙ ap (λ (b : Bool). bit x k || b) (bit-alone j k h)

pub bit-first-set : (x k : ℕ) → k < span → bit (bit_or x 1) k ≡ (bit x k || eqb k 0)
unfolding shifted
bit-first-set x = bit-set x 0

-- ---- clear in both

pub clear-set : (x j k : ℕ) → k < span → bit (bit_or x (shifted 1 j)) k ≡ false → (bit x k ≡ false) × (eqb k j ≡ false)
clear-set x j k h e = neither (bit x k) (eqb k j) (sym (bit-set x j k h) ∙ e)

pub clear-first-set : (x k : ℕ) → k < span → bit (bit_or x 1) k ≡ false → (bit x k ≡ false) × (eqb k 0 ≡ false)
unfolding shifted
clear-first-set x = clear-set x 0

-- of a shifted word with its first bit set
pub clear-shifted : (x d n k : ℕ) → bit (bit_or (shifted x d) 1) n ≡ false → n ≡ d + k → n < span → bit x k ≡ false
clear-shifted x d n k r e h =
    sym (bit_shifted x d k (omega arith)) ∙ ap (bit (shifted x d)) (sym e) ∙ (clear-first-set (shifted x d) n h r).0
