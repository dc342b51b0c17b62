-- CMAC's doubling: by bits, of an XOR, and as arithmetic on bytes. Assumes nothing.
use Rattle.prelude.proofs.{◌≡◌, refl, sym, ap, ap₂, ◌∙◌, Bool, true, false, ◌&&◌, cond, List, [], ◌∷◌, ℕ, zero, suc, ◌+◌, ◌-◌, ◌*◌}
use Rattle.prelude.proofs.{◌/◌, ◌%◌, ◌<◌, dec_lt, arith, eqb, eqb-suc-zero, bit_xor, xor_zero_r, xor_lt, get_or, length, replicate}
use Rattle.prelude.proofs.{get_or-eq_default}
use Rattle.std.proofs.Common.{below_more}
use Rattle.bits.specs.Bit.{bit, odd, ◌⊻◌}
use Rattle.bits.proofs.XorOfBits.{input, xored, shl, shr, moved}
use Rattle.bits.proofs.{Laws.bit-zero, Test.four-bits}
use Rattle.blocks.specs.{Bytes.Block, Bytes.◌⊕◌, Bytes.zeros, Bytes.tab, Bits.bit_at, Bits.block_of}
use Rattle.blocks.proofs.Xor.{⊕-comm, ⊕-zero, bytes-append, bytes-cons, bytes-nil, bytes-replicate}
use Rattle.blocks.proofs.ByBits.{is_block, block_of-same, block_of-bits, block_of-⊕, bit-⊕}
use Rattle.blocks.proofs.ByBytes.{place, bit_byte, tab-bits, tab-known}
use Rattle.modes.specs.Cmac.{shifted, R, doubled}
use Rattle.modes.specs.Doubling.{shifted_byte, product, doubled_bytes}

R-block : Block R
R-block = record {
  size = refl;
  bytes = bytes-append (replicate 15 0) (0x87 ∷ []) (bytes-replicate 15) (bytes-cons 0x87 [] (omega arith) bytes-nil);
}

-- ---- by bits

-- a bit of the doubled block: r is R's there, top the block's highest, before the one below, which the lowest has not
abbrev pub doubled_bit : (r lowest top before : Bool) → Bool
doubled_bit r lowest top before = (top && r) ⊻ cond lowest false before

pub doubled-bits : (b : List ℕ) → doubled b ≡ block_of (λ i. doubled_bit (bit_at R i) (eqb i 0) (bit_at b 127) (bit_at b (i - 1)))
unfolding doubled
doubled-bits b = go (bit_at b 127)
  where
    go : (t : Bool) → cond t (shifted b ⊕ R) (shifted b) ≡ block_of (λ i. doubled_bit (bit_at R i) (eqb i 0) t (bit_at b (i - 1)))
    go true =
        ⊕-comm (shifted b) R
        ∙ ap (λ (z : List ℕ). z ⊕ shifted b) (sym (block_of-bits R R-block))
        ∙ sym (block_of-⊕ (bit_at R) (λ i. cond (eqb i 0) false (bit_at b (i - 1))))
    go false = refl

pub doubled-block : (b : List ℕ) → Block (doubled b)
doubled-block b = rw doubled-bits (is_block _)

-- ---- of an XOR

abbrev whole : (r l s t x y : Bool) → Bool
whole r l s t x y = doubled_bit r l (s ⊻ t) (x ⊻ y)

abbrev apart : (r l s t x y : Bool) → Bool
apart r l s t x y = doubled_bit r l s x ⊻ doubled_bit r l t y

additive : (r l s t x y : Bool) → whole r l s t x y ≡ apart r l s t x y
additive true true = four-bits (whole true true) (apart true true) tt
additive true false = four-bits (whole true false) (apart true false) tt
additive false true = four-bits (whole false true) (apart false true) tt
additive false false = four-bits (whole false false) (apart false false) tt

pub doubled-⊕ : {a b : List ℕ} → Block a → Block b → doubled (a ⊕ b) ≡ doubled a ⊕ doubled b
doubled-⊕ {a} {b} p q =
    doubled-bits (a ⊕ b)
    ∙ block_of-same _ _ (λ i _.
    ap₂ (doubled_bit (bit_at R i) (eqb i 0)) (bit-⊕ p q 127) (bit-⊕ p q (i - 1))
    ∙ additive (bit_at R i) (eqb i 0) (bit_at a 127) (bit_at b 127) (bit_at a (i - 1)) (bit_at b (i - 1)))
    ∙ block_of-⊕ _ _
    ∙ sym (ap₂ ◌⊕◌ (doubled-bits a) (doubled-bits b))

-- ---- as arithmetic on bytes

-- a byte shifted left, with the highest bit of the next: which of the two each bit is from, and its place there
abbrev from : ℕ → ℕ
from zero = 1
from (suc i) = 0

abbrev source : ℕ → ℕ
source zero = 7
source (suc i) = i

shift_in : (x y : ℕ) → x < 256 → y < 256 → (i : ℕ) → i < 8
    → bit (bit_xor (x * 2 % 256) (y / 128)) i ≡ bit (get_or (x ∷ y ∷ []) (from i) 0) (source i)
shift_in x y h l =
    let ws : List ℕ = x ∷ y ∷ [] in
    moved (xored (shl (input 8 ws 0 (omega arith) h) 1) (shr (input 8 ws 1 (omega arith) l) 7)) from source tt

-- the highest bit times 135, in the last byte: R where the bit is set, and else zeros
pub product-added : (b : List ℕ) → get_or b 0 0 < 256 → shifted b ⊕ product b ≡ doubled b
unfolding doubled bit_at bit zeros
product-added b h = go (get_or b 0 0 / 128) refl (omega arith)
  where
    go : (t : ℕ) → get_or b 0 0 / 128 ≡ t → t < 2 → shifted b ⊕ product b ≡ cond (odd t) (shifted b ⊕ R) (shifted b)
    go zero e l = rw e (⊕-zero (is_block _))
    go (suc zero) e l = rw e
    go (suc (suc t)) e l = absurd (omega arith)

module _ {b : List ℕ} (w : Block b) where
  pub arithmetic-shifts : tab 16 (shifted_byte b) ≡ shifted b
  arithmetic-shifts =
      tab-bits _ (shifted_byte b)
      (λ k. xor_lt 8 (get_or b k 0 * 2 % 256) (get_or b (k + 1) 0 / 128) (omega arith) (omega (arith, w.bytes (k + 1))))
      (λ k i h l. shift_in (get_or b k 0) (get_or b (k + 1) 0) (w.bytes k) (w.bytes (k + 1)) i l ∙ go k h i l)
    where
      low : (n i : ℕ) → n ≡ suc i → cond (eqb n 0) false (bit_at b (n - 1)) ≡ bit_at b i
      low n i e = let d : suc i - 1 ≡ i = omega arith in rw (e, eqb-suc-zero, d)

      go : (k : ℕ) → k < 16 → (i : ℕ) → i < 8 → bit (get_or (get_or b k 0 ∷ get_or b (k + 1) 0 ∷ []) (from i) 0) (source i)
          ≡ cond (eqb (place k i) 0) false (bit_at b (place k i - 1))
      go k h (suc i) l = sym (low (place k (suc i)) (place k i) (omega arith) ∙ bit_byte b k i h (omega arith))
      go k h zero l = elim (dec_lt k 15) [
        | yes d ↦ sym (low (place k 0) (place (k + 1) 7) (omega arith) ∙ bit_byte b (k + 1) 7 (omega arith) (omega arith))
        | no d ↦
            let e : place k 0 ≡ 0 = omega arith in
            rw (e, get_or-eq_default b 0 {n = k + 1} (omega arith)) (bit-zero 7)
      ]

  -- so it is byte by byte; the last byte has nothing behind it
  pub shifted-bytes : (r : List ℕ) → length r ≡ 16 → ((k : ℕ) → k < 15 → get_or r k 0 ≡ shifted_byte b k)
      → get_or r 15 0 ≡ get_or b 15 0 * 2 % 256 → r ≡ shifted b
  shifted-bytes r size first last = sym (tab-known (shifted_byte b) r size each) ∙ arithmetic-shifts
    where
      none : get_or b 15 0 * 2 % 256 ≡ shifted_byte b 15
      none =
          sym (ap (bit_xor (get_or b 15 0 * 2 % 256)) (ap (λ (n : ℕ). n / 128) (get_or-eq_default b 0 {n = 16} (omega arith)))
          ∙ xor_zero_r (get_or b 15 0 * 2 % 256))

      each : (k : ℕ) → k < 16 → shifted_byte b k ≡ get_or r k 0
      each = below_more _ 15 (λ k h. sym (first k h)) (sym (last ∙ none))

  -- the arithmetic is SP 800-38B's doubling, for every block
  pub arithmetic-doubles : doubled_bytes b ≡ doubled b
  unfolding doubled_bytes
  arithmetic-doubles = ap (λ (z : List ℕ). z ⊕ product b) arithmetic-shifts ∙ product-added b (w.bytes 0)
