-- A list by its elements, a block by its bytes, each of them by its bits; a loop that writes a block byte by byte.
-- Assumes nothing.
use Rattle.prelude.proofs.{◌≡◌, refl, sym, ap, ap₂, ◌∙◌, Bool, List, [], ◌∷◌, ◌++◌, ℕ, zero, suc, ◌+◌, ◌-◌, ◌*◌, ◌/◌, ◌%◌, ◌≤◌, ◌<◌}
use Rattle.prelude.proofs.{not-suc-le-zero, dec_lt, arith, bit_xor, length, get_or, get_or-append, get_or-append-add}
use Rattle.bits.specs.Bit.{bit}
use Rattle.bits.proofs.Laws.{number_same, number-bits}
use Rattle.blocks.specs.{Bytes.◌⊕◌, Bytes.put, Bytes.tab, Bits.block_of, Bits.bit_at}
use Rattle.blocks.proofs.{Xor.⊕-length, Xor.get_or-⊕, ByBits.is_block, ByBits.bit-block_of, Parts.tab-length, Parts.tab-list}

-- ---- a list by its elements

-- an element of a list given by a rule
pub get_or-tab : (n : ℕ) (f : ℕ → ℕ) (k : ℕ) → k < n → get_or (tab n f) k 0 ≡ f k
unfolding tab
get_or-tab zero f k h = absurd (not-suc-le-zero h)
get_or-tab (suc n) f k h = elim (dec_lt k n) [
  | yes l ↦ get_or-append (tab n f) (f n ∷ []) 0 k (omega (arith, tab-length n f)) ∙ get_or-tab n f k l
  | no l ↦
      let e : k ≡ length (tab n f) + 0 = omega (arith, tab-length n f) in let m : n ≡ k = omega arith in
      ap (λ (i : ℕ). get_or (tab n f ++ (f n ∷ [])) i 0) e ∙ get_or-append-add (tab n f) (f n ∷ []) 0 0 ∙ ap f m
]

-- two rules that give the same elements, and a list whose elements are known
pub tab-same : (n : ℕ) (f g : ℕ → ℕ) → ((k : ℕ) → k < n → f k ≡ g k) → tab n f ≡ tab n g
unfolding tab
tab-same zero f g e = refl
tab-same (suc n) f g e = ap₂ (λ (l : List ℕ) (x : ℕ). l ++ (x ∷ [])) (tab-same n f g (λ k h. e k (omega arith))) (e n (omega arith))

pub tab-known : {n : ℕ} (f : ℕ → ℕ) (s : List ℕ) → length s ≡ n → ((k : ℕ) → k < n → f k ≡ get_or s k 0) → tab n f ≡ s
tab-known {n} f s l e = tab-same n f _ e ∙ ap (λ (n : ℕ). tab n (λ i. get_or s i 0)) (sym l) ∙ tab-list s

-- ---- a block by its bytes

-- the place of bit i of byte k in a block
abbrev pub place : ℕ → ℕ → ℕ
place k i = 8 * (15 - k) + i

pub bit_byte : (b : List ℕ) (k i : ℕ) → k < 16 → i < 8 → bit_at b (place k i) ≡ bit (get_or b k 0) i
unfolding bit_at
bit_byte b k i h l =
    let e : 15 - place k i / 8 ≡ k = omega arith in
    let m : place k i % 8 ≡ i = omega arith in
    ap₂ (λ (x y : ℕ). bit (get_or b x 0) y) e m

-- a byte of a block of given bits, and the whole block
module _ (f : ℕ → Bool) where
  pub byte-same : (k x : ℕ) → k < 16 → x < 256 → ((i : ℕ) → i < 8 → bit x i ≡ f (place k i)) → x ≡ get_or (block_of f) k 0
  byte-same k x h l e =
      sym (number-bits 8 x l)
      ∙ number_same 8 (bit x) (bit (get_or (block_of f) k 0))
      (λ i d. e i d ∙ sym (bit-block_of f (place k i) (omega arith)) ∙ bit_byte (block_of f) k i h d)
      ∙ number-bits 8 (get_or (block_of f) k 0) ((is_block f).bytes k)

  pub tab-bits : (g : ℕ → ℕ) → ((k : ℕ) → g k < 256)
      → ((k i : ℕ) → k < 16 → i < 8 → bit (g k) i ≡ f (place k i)) → tab 16 g ≡ block_of f
  tab-bits g s e = tab-known g (block_of f) (is_block f).size (λ k h. byte-same k (g k) h (s k) (λ i l. e k i h l))

pub tab-⊕ : (a b : List ℕ) → length a ≡ 16 → length b ≡ 16 → tab 16 (λ k. bit_xor (get_or a k 0) (get_or b k 0)) ≡ a ⊕ b
tab-⊕ a b p q = tab-known _ (a ⊕ b) (rw ⊕-length (omega arith)) (λ k h. sym (get_or-⊕ a b k (p ∙ sym q)))

-- before turn i of the loop, what g makes of each place below i is written over r₀
abbrev pub Written : (ℕ → ℕ) → List ℕ → List ℕ → ℕ → Type 0
Written g r₀ r i = (i ≤ 16) × (r ≡ put 0 (tab i g) r₀)
