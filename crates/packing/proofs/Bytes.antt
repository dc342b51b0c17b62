-- Bytes into words and back: the bytes that a word holds, and those of a block by turns. Assumes nothing.
use Rattle.prelude.proofs.{◌≡◌, refl, sym, ap₂, ◌∙◌, Bool, ◌&&◌, List, [], ◌∷◌, ℕ, ◌+◌, ◌*◌, ◌/◌, ◌%◌, ◌^◌, ◌<◌, mod-lt, arith, T, ltb}
use Rattle.prelude.proofs.{pow_pos, get_or}
use Rattle.bits.specs.Bit.{bit, number}
use Rattle.bits.proofs.Laws.{number_same, number-bits, bit-low, bit-shr}
use Rattle.bits.proofs.Test.{each, agree, agree²}
use Rattle.bits.proofs.XorOfBits.{Made, same, moved}
use Rattle.blocks.specs.{Bytes.Block, Bytes.Bytes, Bits.block_of, Bits.cells, Bits.rearranged}
use Rattle.blocks.proofs.{Xor.bytes-cons, Xor.bytes-nil, ByBits.rearranged-twice, ByBits.rearranged-same}
use Rattle.baksheesh.proofs.Steps.{at-inside}
use Rattle.words.specs.Words.{unpacked}
use Rattle.packing.specs.Bytes.{reversed, scattered}
use Rattle.words.proofs.Words.{packed-rearranged}

-- ---- a word's bytes

-- the byte of y from bit n on
pub byte_at : (y n : ℕ) (f : ℕ → Bool) → ((i : ℕ) → i < 8 → bit y (n + i) ≡ f i) → y / 2 ^ n % 256 ≡ number 8 f
byte_at y n f e =
    sym (number-bits 8 _ (mod-lt _ (pow_pos 8))) ∙ number_same 8 _ f (λ i h. bit-low _ 8 i h ∙ bit-shr y n i ∙ e i h)

pub four_bytes : {a b c d : ℕ} → a < 256 → b < 256 → c < 256 → d < 256 → Bytes (a ∷ b ∷ c ∷ d ∷ [])
four_bytes {a} {b} {c} {d} p q r s =
    bytes-cons a (b ∷ c ∷ d ∷ []) p (bytes-cons b (c ∷ d ∷ []) q (bytes-cons c (d ∷ []) r (bytes-cons d [] s bytes-nil)))

flip-byte : (k i : ℕ) → k < 4 → i < 8 → reversed 3 (8 * k + i) / 8 ≡ k
flip-byte = agree² 4 8 (λ k i. reversed 3 (8 * k + i) / 8) (λ k i. k) tt

flip-inside : (k i : ℕ) → k < 4 → i < 8 → reversed 3 (8 * k + i) < 32
flip-inside k i h l = omega (arith, flip-byte k i h l)

flip-bit : (k i : ℕ) → k < 4 → i < 8 → reversed 3 (reversed 3 (8 * k + i)) % 8 ≡ i
flip-bit = agree² 4 8 (λ k i. reversed 3 (reversed 3 (8 * k + i)) % 8) (λ k i. i) tt

-- four bytes in a word, the first of them lowest
pub gathers : {ws : List ℕ} {x : ℕ} {f : ℕ → List ℕ} → Made 32 ws x f → Bytes ws
    → T (each 32 (λ i. same (f i) ((64 * (i / 8) + reversed 3 i % 8) ∷ []) && ltb (reversed 3 i % 8) 64))
    → scattered x ≡ get_or ws 3 0 ∷ get_or ws 2 0 ∷ get_or ws 1 0 ∷ get_or ws 0 0 ∷ []
unfolding scattered
gathers {ws} {x} m small t = λ i. go 3 (omega arith) i ∷ go 2 (omega arith) i ∷ go 1 (omega arith) i ∷ go 0 (omega arith) i ∷ []
  where
    go : (k : ℕ) → k < 4 → number 8 (λ i. bit x (reversed 3 (8 * k + i))) ≡ get_or ws k 0
    go k h =
        number_same 8 _ (bit (get_or ws k 0)) (λ i l.
        moved m (λ i. i / 8) (λ i. reversed 3 i % 8) t (reversed 3 (8 * k + i)) (flip-inside k i h l)
        ∙ ap₂ (λ (a b : ℕ). bit (get_or ws a 0) b) (flip-byte k i h l) (flip-bit k i h l))
        ∙ number-bits 8 _ (small k)

-- ---- a block's bytes

-- the bytes of four words by turns, as they stand in a block
abbrev pub interleave : List ℕ → List ℕ → List ℕ → List ℕ → List ℕ
interleave a b c d =
    get_or d 0 0 ∷ get_or b 0 0 ∷ get_or c 0 0 ∷ get_or a 0 0 ∷ get_or d 1 0 ∷ get_or b 1 0 ∷ get_or c 1 0 ∷ get_or a 1 0
    ∷ get_or d 2 0 ∷ get_or b 2 0 ∷ get_or c 2 0 ∷ get_or a 2 0 ∷ get_or d 3 0 ∷ get_or b 3 0 ∷ get_or c 3 0 ∷ get_or a 3 0 ∷ []

pub interleaved : (s : List ℕ)
    → rearranged (reversed 5) (unpacked s)
    ≡ interleave (scattered (get_or s 0 0)) (scattered (get_or s 1 0)) (scattered (get_or s 2 0)) (scattered (get_or s 3 0))
unfolding scattered cells block_of
interleaved s = packed-rearranged s (reversed 5) (at-inside (reversed 5) tt)

pub reversed-twice : (b : List ℕ) → Block b → rearranged (reversed 5) (rearranged (reversed 5) b) ≡ b
reversed-twice b w =
    rearranged-twice (reversed 5) (reversed 5) (λ i. i) (at-inside (reversed 5) tt) (agree 128 _ _ tt) b
    ∙ rearranged-same (λ i. i) b w (λ i h. refl)
