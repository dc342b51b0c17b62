-- Words that hold the bits of a block in some order, shown by a test for each word. Assumes nothing.
use Rattle.prelude.proofs.{◌≡◌, sym, ◌∙◌, Bool, ◌&&◌, List, [], ◌∷◌, ℕ, ◌+◌, ◌*◌, ◌/◌, ◌%◌, arith, T, ltb, get_or, w32, Fits}
use Rattle.bits.proofs.Test.{each}
use Rattle.bits.proofs.XorOfBits.{Made, Places, own, input, same, moved}
use Rattle.blocks.specs.Bits.{rearranged}
use Rattle.baksheesh.proofs.Steps.{inside, at-inside}
use Rattle.words.specs.Words.{unpacked}
use Rattle.words.proofs.Words.{words, packed-rearranged}

-- the words of s themselves
pub inputs : (s : List ℕ) → ((j : ℕ) → Fits w32 (get_or s j 0)) → (j : ℕ) → Made 32 s (get_or s j 0) (own j)
inputs s f j = input 32 s j (omega arith) (f j).fits

-- word j has bit p (4i + j) of the block at its place i
abbrev holds : (ℕ → ℕ) → ℕ → Places → Bool
holds p j f = each 32 (λ i. same (f i) ((64 * (p (4 * i + j) % 4) + p (4 * i + j) / 4) ∷ []) && ltb (p (4 * i + j) / 4) 64)

pub rearranges : {s : List ℕ} {a b c d : ℕ} {f g h k : ℕ → List ℕ} (p : ℕ → ℕ)
    → Made 32 s a f → Made 32 s b g → Made 32 s c h → Made 32 s d k
    → T (inside p) → T (holds p 0 f) → T (holds p 1 g) → T (holds p 2 h) → T (holds p 3 k)
    → unpacked (a ∷ b ∷ c ∷ d ∷ []) ≡ rearranged p (unpacked s)
rearranges {s} p a b c d t t₀ t₁ t₂ t₃ =
    words _ _ _ _ _ (moved a _ _ t₀) (moved b _ _ t₁) (moved c _ _ t₂) (moved d _ _ t₃)
    ∙ sym (packed-rearranged s p (at-inside p t))
