-- Each byte of a rotated block comes from two neighbouring bytes. Assumes nothing.
use Rattle.prelude.proofs.{◌≡◌, refl, sym, ap, ap₂, ◌∙◌, ◌&&◌, List, [], ◌∷◌, ℕ, zero, suc, ◌+◌, ◌-◌, ◌*◌, ◌/◌, ◌%◌, ◌^◌, ◌<◌, arith, ltb}
use Rattle.prelude.proofs.{bit_xor, get_or}
use Rattle.bits.specs.Bit.{bit}
use Rattle.bits.proofs.Test.{each, below}
use Rattle.bits.proofs.XorOfBits.{Made, Places, own, down, up, joined, same, input, xored, shr, shl, moved}
use Rattle.blocks.specs.{Bytes.Bytes, Bytes.tab, Bits.bit_at, Bits.rearranged}
use Rattle.baksheesh.specs.Baksheesh.{rotated}
use Rattle.blocks.proofs.ByBytes.{place, tab-bits}

-- the high bits of x below the low bits of y
abbrev pub shifted : ℕ → ℕ → ℕ → ℕ
shifted x y m = bit_xor (x / 2 ^ m) (y * 2 ^ (8 - m) % 256)

abbrev sources : ℕ → Places
sources m = joined (down 8 m (own 0)) (up (8 - m) (own 1))

module _ (x y m : ℕ) (p : x < 256) (q : y < 256) (l : m < 8) where
  made : Made 8 (x ∷ y ∷ []) (shifted x y m) (sources m)
  made = let ws = x ∷ y ∷ [] in xored (shr (input 8 ws 0 (omega arith) p) m) (shl (input 8 ws 1 (omega arith) q) (8 - m))

  bit_shifted : (i : ℕ) → i < 8 → bit (shifted x y m) i ≡ bit (get_or (x ∷ y ∷ []) ((m + i) / 8) 0) ((m + i) % 8)
  bit_shifted =
      moved made (λ i. (m + i) / 8) (λ i. (m + i) % 8)
      (below 8 (λ m. each 8 (λ i. same (sources m i) ((64 * ((m + i) / 8) + (m + i) % 8) ∷ []) && ltb ((m + i) % 8) 64)) tt m l)

-- two neighbours, the second on the left of the first
neighbour : (k : List ℕ) (j t : ℕ) → t < 2 → get_or (get_or k (j % 16) 0 ∷ get_or k ((j + 15) % 16) 0 ∷ []) t 0 ≡ get_or k ((j + 15 * t) % 16) 0
neighbour k j zero h = ap (λ (i : ℕ). get_or k (i % 16) 0) (omega arith)
neighbour k j (suc zero) h = refl
neighbour k j (suc (suc t)) h = absurd (omega arith)

-- where bit b of byte i comes from: byte by byte, and bit by bit
back : (i q t : ℕ) → i < 16 → q < 16 → t < 2 → (i + 16 - q + 15 * t) % 16 ≡ 15 - (15 - i + q + t) % 16
back i q t h l m = omega arith

byte_of : (u v : ℕ) → v < 8 → (8 * u + v) % 128 / 8 ≡ u % 16
byte_of u v h = omega arith

bit-of : (u v : ℕ) → v < 8 → (8 * u + v) % 128 % 8 ≡ v
bit-of u v h = omega arith

pub tab-rotated : (n : ℕ) (k : List ℕ) → n < 128 → Bytes k
    → tab 16 (λ i. shifted (get_or k ((i + 16 - n / 8) % 16) 0) (get_or k ((i + 16 - n / 8 + 15) % 16) 0) (n % 8)) ≡ rotated n k
unfolding rearranged bit_at
tab-rotated n k h s =
    tab-bits _ _ (λ i. (made _ _ (n % 8) (s _) (s _) (omega arith)).fits) λ i b l u.
    let t : ℕ = (n % 8 + b) / 8 in
    let v : ℕ = (n % 8 + b) % 8 in
    let e : 8 * (15 - i + n / 8 + t) + v ≡ place i b + n = omega arith in
    bit_shifted _ _ (n % 8) (s _) (s _) (omega arith) b u
    ∙ ap (λ (x : ℕ). bit x v) (neighbour k (i + 16 - n / 8) t (omega arith))
    ∙ ap₂ (λ (x y : ℕ). bit (get_or k x 0) y)
    (back i (n / 8) t l (omega arith) (omega arith) ∙ ap (λ (x : ℕ). 15 - x) (sym (byte_of _ v (omega arith))))
    (sym (bit-of _ v (omega arith)))
    ∙ ap (λ (x : ℕ). bit (get_or k (15 - x % 128 / 8) 0) (x % 128 % 8)) e
