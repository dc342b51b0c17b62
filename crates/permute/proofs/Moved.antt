-- Bytes taken into words, moved there, and put back: the block with its bits moved. Assumes nothing.
use Rattle.prelude.proofs.{◌≡◌, ap₂, ◌∙◌, List, [], ◌∷◌, ℕ, ◌+◌, ◌-◌, ◌*◌, ◌/◌, ◌%◌, ◌^◌, ◌<◌, mod-lt, arith, T, eqb, ltb, ltb→lt, pow_pos}
use Rattle.prelude.proofs.{get_or}
use Rattle.bits.specs.Bit.{bit}
use Rattle.bits.proofs.Laws.{bit-low, bit-shr}
use Rattle.bits.proofs.Test.{each, below, agree², four}
use Rattle.blocks.specs.{Bits.bit_at, Bits.rearranged, Bytes.tab}
use Rattle.blocks.proofs.ByBytes.{place, tab-bits}

-- s: the block; word j is made of its bytes at start j, start j + n, start j + 2n and start j + 3n; bit b of a moved word
-- comes from its bit q b; byte k of the result is taken from word u k, from bit v k up; bit i of it is then bit p i of s
module _ (s : List ℕ) (start : ℕ → ℕ) (n : ℕ) (q u v p : ℕ → ℕ) where
  abbrev Loaded : ℕ → ℕ → Type 0
  Loaded j x = (b : ℕ) → b < 32 → bit x b ≡ bit (get_or s (start j + (3 - b / 8) * n) 0) (b % 8)

  abbrev Turned : ℕ → ℕ → Type 0
  Turned x y = (b : ℕ) → b < 32 → bit y b ≡ bit x (q b)

  pub tab-words : (a b c d a' b' c' d' : ℕ)
      → Loaded 0 a → Loaded 1 b → Loaded 2 c → Loaded 3 d → Turned a a' → Turned b b' → Turned c c' → Turned d d'
      → T (each 32 (λ b. ltb (q b) 32)) → ((k : ℕ) → k < 16 → u k < 4) → ((k : ℕ) → v k < 25)
      → T (each 16 (λ k. each 8 (λ i. eqb (start (u k) + (3 - q (v k + i) / 8) * n) (15 - p (place k i) / 8))))
      → T (each 16 (λ k. each 8 (λ i. eqb (q (v k + i) % 8) (p (place k i) % 8))))
      → tab 16 (λ k. get_or (a' ∷ b' ∷ c' ∷ d' ∷ []) (u k) 0 / 2 ^ v k % 256) ≡ rearranged p s
  unfolding rearranged bit_at
  tab-words a b c d a' b' c' d' l₀ l₁ l₂ l₃ m₀ m₁ m₂ m₃ t f g t₁ t₂ =
      let x = a ∷ b ∷ c ∷ d ∷ [] in
      let y = a' ∷ b' ∷ c' ∷ d' ∷ [] in
      tab-bits _ (λ k. get_or y (u k) 0 / 2 ^ v k % 256) (λ k. mod-lt (get_or y (u k) 0 / 2 ^ v k) (pow_pos 8)) λ k i h l.
      let o = v k + i in
      let small = g k in
      bit-low (get_or y (u k) 0 / 2 ^ v k) 8 i l ∙ bit-shr (get_or y (u k) 0) (v k) i
      ∙ four (λ j. Turned (get_or x j 0) (get_or y j 0)) m₀ m₁ m₂ m₃ (u k) (f k h) o (omega arith)
      ∙ four (λ j. Loaded j (get_or x j 0)) l₀ l₁ l₂ l₃ (u k) (f k h) (q o) (ltb→lt (q o) 32 (below 32 (λ b. ltb (q b) 32) t o (omega arith)))
      ∙ ap₂ (λ (x y : ℕ). bit (get_or s x 0) y)
      (agree² 16 8 (λ k i. start (u k) + (3 - q (v k + i) / 8) * n) (λ k i. 15 - p (place k i) / 8) t₁ k i h l)
      (agree² 16 8 (λ k i. q (v k + i) % 8) (λ k i. p (place k i) % 8) t₂ k i h l)
