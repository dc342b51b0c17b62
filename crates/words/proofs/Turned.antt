-- A word rotated is the xor of two shifts of it, which share no bit. Assumes nothing.
use Rattle.prelude.proofs.{◌≡◌, refl, sym, ◌∙◌, Bool, true, false, ◌&&◌, ◌||◌, false≢true, and-false, and_comm, ℕ, ◌+◌, ◌*◌, ◌/◌, ◌%◌, ◌^◌}
use Rattle.prelude.proofs.{◌<◌, dec_lt, arith, lt_of_lt_of_le, bit_xor, bit_or, pow_mono, shr_lt, subst, List}
use Rattle.bits.specs.Bit.{bit, ◌⊻◌}
use Rattle.bits.proofs.Laws.{bit-xor, bit-or, bit-low, bit-shl-low, bit_high, bits-same}
use Rattle.bits.proofs.XorOfBits.{Made, Places, joined, up, down, equal, xored, shl, shr}

or-xor : (a b : Bool) → (a && b) ≡ false → (a || b) ≡ (a ⊻ b)
or-xor true true e = absurd (false≢true (sym e))
or-xor true false e = refl
or-xor false b e = refl

-- numbers that share no bit
or-apart : (y z : ℕ) → ((i : ℕ) → (bit y i && bit z i) ≡ false) → bit_or y z ≡ bit_xor y z
or-apart y z h = bits-same _ _ (λ i. bit-or y z i ∙ or-xor (bit y i) (bit z i) (h i) ∙ sym (bit-xor y z i))

module _ {ws : List ℕ} {x : ℕ} {f : Places} (a : Made 32 ws x f) (m n : ℕ) (e : 32 ≡ m + n) where
  abbrev high : ℕ
  high = x * 2 ^ m % 2 ^ 32

  abbrev low : ℕ
  low = x / 2 ^ n

  apart : (i : ℕ) → (bit high i && bit low i) ≡ false
  apart i = elim (dec_lt i m) [
    | yes l ↦ rw (bit-low (x * 2 ^ m) 32 i (omega arith), bit-shl-low x m i l)
    | no l ↦
        let small : x < 2 ^ (m + n) = subst (λ (w : ℕ). x < 2 ^ w) e a.fits in
        rw (bit_high low i (lt_of_lt_of_le (shr_lt m n small) (pow_mono (omega arith)))) (and-false (bit high i))
  ]

  pub turned_up : {y : ℕ} → y ≡ bit_or high low → Made 32 ws y (joined (up m f) (down 32 n f))
  turned_up d = equal (xored (shl a m) (shr a n)) (d ∙ or-apart high low apart)

  pub turned_down : {y : ℕ} → y ≡ bit_or low high → Made 32 ws y (joined (down 32 n f) (up m f))
  turned_down d =
      equal (xored (shr a n) (shl a m)) (d ∙ or-apart low high (λ i. and_comm (bit low i) (bit high i) ∙ apart i))
