-- The round constants as a table of words, with a mask for each word of the packed form. Assumes nothing.
use Rattle.prelude.proofs.{◌≡◌, sym, ap, ◌∙◌, Bool, ◌&&◌, Bool-beq, List, [], ◌∷◌, map, ℕ, ◌+◌, ◌*◌, ◌/◌, ◌^◌, ◌<◌, T, bit_xor, bit_and, get_or}
use Rattle.bits.specs.Bit.{bit, odd, number, ◌⊻◌}
use Rattle.bits.proofs.{Laws.bit-xor, Laws.bit-and, Test.each, Test.below, Test.beq→eq}
use Rattle.blocks.specs.Bytes.{◌⊕◌}
use Rattle.baksheesh.specs.Baksheesh.{rounds, constants, taps, tapped, constant}
use Rattle.words.specs.Words.{unpacked}
use Rattle.words.proofs.Words.{words, packed-constant}

-- the word that has each of the six bits of x at the place of its tap's cell
abbrev placed : ℕ → ℕ
placed x = number 32 (λ i. let at = tapped taps x 0 in at (4 * i) ⊻ at (4 * i + 1) ⊻ at (4 * i + 2) ⊻ at (4 * i + 3))

abbrev table : List ℕ
table = map placed constants

-- word j of s, with what the mask m leaves of entry n
abbrev added : List ℕ → ℕ → ℕ → ℕ → ℕ
added s n j m = bit_xor (get_or s j 0) (bit_and (get_or table n 0) m)

-- bit i of the entry t under the mask m is the bit of the constant x that goes to bit j of cell i
abbrev right : ℕ → ℕ → ℕ → ℕ → ℕ → Bool
right j m t x i = Bool-beq (odd (t / 2 ^ i) && odd (m / 2 ^ i)) (tapped taps x 0 (4 * i + j))

abbrev right-entry : ℕ → ℕ → ℕ → Bool
right-entry j m n = each 32 (right j m (get_or table n 0) (get_or constants n 0))

bit_added : (s : List ℕ) (n j m : ℕ) → n < rounds → T (each rounds (right-entry j m)) → (i : ℕ) → i < 32
    → bit (added s n j m) i ≡ (bit (get_or s j 0) i ⊻ tapped taps (get_or constants n 0) 0 (4 * i + j))
unfolding bit
bit_added s n j m h t i l =
    bit-xor (get_or s j 0) _ i
    ∙ ap (λ (b : Bool). bit (get_or s j 0) i ⊻ b)
    (bit-and (get_or table n 0) m i
    ∙ beq→eq _ _ (below 32 (right j m (get_or table n 0) (get_or constants n 0)) (below rounds (right-entry j m) t n h) i l))

pub adds_constant : (m₀ m₁ m₂ m₃ : ℕ) (s : List ℕ) (n : ℕ) → n < rounds
    → T (each rounds (right-entry 0 m₀)) → T (each rounds (right-entry 1 m₁))
    → T (each rounds (right-entry 2 m₂)) → T (each rounds (right-entry 3 m₃))
    → unpacked (added s n 0 m₀ ∷ added s n 1 m₁ ∷ added s n 2 m₂ ∷ added s n 3 m₃ ∷ []) ≡ unpacked s ⊕ constant n
adds_constant m₀ m₁ m₂ m₃ s n h t₀ t₁ t₂ t₃ =
    words _ _ _ _ _ (bit_added s n 0 m₀ h t₀) (bit_added s n 1 m₁ h t₁) (bit_added s n 2 m₂ h t₂) (bit_added s n 3 m₃ h t₃)
    ∙ sym (packed-constant s n)
