-- Blocks and their bits: a block is known by its bits, XOR goes bit by bit; blocks by their cells. Assumes nothing.
use Rattle.prelude.proofs.{◌≡◌, refl, sym, ap, ap₂, ◌∙◌, Bool, List, ◌∷◌, ℕ, zero, suc, ◌+◌, ◌-◌, ◌*◌, ◌/◌, ◌%◌, ◌<◌, le_of_suc-le-suc}
use Rattle.prelude.proofs.{not-suc-le-zero, arith, length, get_or, ext_get_or}
use Rattle.bits.specs.Bit.{bit, number, ◌⊻◌}
use Rattle.bits.proofs.Laws.{bit-number, number_lt, number_same, number-bits, bit-xor}
use Rattle.blocks.specs.Bytes.{Block, ◌⊕◌}
use Rattle.blocks.specs.Bits.{bytes_of, block_of, bit_at, cells, rearranged, each_cell}
use Rattle.blocks.proofs.Xor.{⊕-block, get_or-⊕}

-- ---- a block by its bits

length-bytes_of_of : (n : ℕ) (f : ℕ → Bool) → length (bytes_of n f) ≡ n
length-bytes_of_of zero f = refl
length-bytes_of_of (suc n) f = ap suc (length-bytes_of_of n f)

get_or-bytes_of_of : (n : ℕ) (f : ℕ → Bool) (k : ℕ) → k < n → get_or (bytes_of n f) k 0 ≡ number 8 (λ i. f (8 * (n - 1 - k) + i))
get_or-bytes_of_of zero f k h = absurd (not-suc-le-zero h)
get_or-bytes_of_of (suc n) f zero h = let e : suc n - 1 - 0 ≡ n = omega arith in rw e
get_or-bytes_of_of (suc n) f (suc k) h =
    let e : suc n - 1 - suc k ≡ n - 1 - k = omega arith in
    rw e (get_or-bytes_of_of n f k (le_of_suc-le-suc h))

bytes_of-bytes : (n : ℕ) (f : ℕ → Bool) (k : ℕ) → get_or (bytes_of n f) k 0 < 256
bytes_of-bytes zero f k = omega arith
bytes_of-bytes (suc n) f zero = number_lt 8 (λ i. f (8 * n + i))
bytes_of-bytes (suc n) f (suc k) = bytes_of-bytes n f k

pub is_block : (f : ℕ → Bool) → Block (block_of f)
unfolding block_of
is_block f = record { size = length-bytes_of_of 16 f; bytes = bytes_of-bytes 16 f }

pub bit-block_of : (f : ℕ → Bool) (i : ℕ) → i < 128 → bit_at (block_of f) i ≡ f i
unfolding block_of bit_at
bit-block_of f i h =
    let k : 15 - i / 8 < 16 = omega arith in
    let e : 8 * (16 - 1 - (15 - i / 8)) + i % 8 ≡ i = omega arith in
    ap (λ (x : ℕ). bit x (i % 8)) (get_or-bytes_of_of 16 f (15 - i / 8) k)
    ∙ bit-number 8 (λ j. f (8 * (16 - 1 - (15 - i / 8)) + j)) (i % 8) (omega arith)
    ∙ ap f e

bytes_of-same : (n : ℕ) (f g : ℕ → Bool) → ((i : ℕ) → i < 8 * n → f i ≡ g i) → bytes_of n f ≡ bytes_of n g
bytes_of-same zero f g e = refl
bytes_of-same (suc n) f g e =
    ap₂ (λ (x : ℕ) (l : List ℕ). x ∷ l)
    (number_same 8 (λ i. f (8 * n + i)) (λ i. g (8 * n + i)) (λ i h. e (8 * n + i) (omega arith)))
    (bytes_of-same n f g (λ i h. e i (omega arith)))

pub block_of-same : (f g : ℕ → Bool) → ((i : ℕ) → i < 128 → f i ≡ g i) → block_of f ≡ block_of g
unfolding block_of
block_of-same f g e = bytes_of-same 16 f g e

pub block_of-bits : (b : List ℕ) → Block b → block_of (bit_at b) ≡ b
unfolding block_of bit_at
block_of-bits b w =
    ext_get_or 0 (block_of (bit_at b)) b (length-bytes_of_of 16 (bit_at b) ∙ sym w.size) λ k h.
    get_or-bytes_of_of 16 (bit_at b) k h
    ∙ number_same 8 _ (bit (get_or b k 0)) (λ i l.
    let e : 15 - (8 * (16 - 1 - k) + i) / 8 ≡ k = omega arith in
    let m : (8 * (16 - 1 - k) + i) % 8 ≡ i = omega arith in
    ap₂ (λ (x y : ℕ). bit (get_or b x 0) y) e m)
    ∙ number-bits 8 (get_or b k 0) (w.bytes k)

pub same_bits : (a b : List ℕ) → Block a → Block b → ((i : ℕ) → i < 128 → bit_at a i ≡ bit_at b i) → a ≡ b
same_bits a b p q e = sym (block_of-bits a p) ∙ block_of-same (bit_at a) (bit_at b) e ∙ block_of-bits b q

-- ---- XOR

module _ {a b : List ℕ} (p : Block a) (q : Block b) where
  pub bit-⊕ : (i : ℕ) → bit_at (a ⊕ b) i ≡ (bit_at a i ⊻ bit_at b i)
  unfolding bit_at
  bit-⊕ i =
      ap (λ (x : ℕ). bit x (i % 8)) (get_or-⊕ a b (15 - i / 8) (p.size ∙ sym q.size))
      ∙ bit-xor (get_or a (15 - i / 8) 0) (get_or b (15 - i / 8) 0) (i % 8)

  pub ⊕-bits : a ⊕ b ≡ block_of (λ i. bit_at a i ⊻ bit_at b i)
  ⊕-bits = same_bits (a ⊕ b) _ (⊕-block p q) (is_block _) (λ i h. bit-⊕ i ∙ sym (bit-block_of _ i h))

pub block_of-⊕ : (f g : ℕ → Bool) → block_of (λ i. f i ⊻ g i) ≡ block_of f ⊕ block_of g
block_of-⊕ f g =
    sym (⊕-bits (is_block f) (is_block g) ∙ block_of-same _ _ (λ i h. ap₂ ◌⊻◌ (bit-block_of f i h) (bit-block_of g i h)))

-- ---- blocks by their cells

pub bit-cells : (g : ℕ → ℕ → Bool) (c j : ℕ) → c < 32 → j < 4 → bit_at (cells g) (4 * c + j) ≡ g c j
unfolding cells
bit-cells g c j h l =
    bit-block_of (λ i. g (i / 4) (i % 4)) (4 * c + j) (omega arith)
    ∙ ap₂ g (omega arith) (omega arith)

pub cells_same : (g h : ℕ → ℕ → Bool) → ((c j : ℕ) → c < 32 → j < 4 → g c j ≡ h c j) → cells g ≡ cells h
unfolding cells
cells_same g h e = block_of-same _ _ (λ i l. e (i / 4) (i % 4) (omega arith) (omega arith))

-- a block given by its bits, as one given by its cells
pub block_of-cells : (f : ℕ → Bool) → block_of f ≡ cells (λ c j. f (4 * c + j))
unfolding cells
block_of-cells f = block_of-same f _ (λ i l. ap f (omega arith))

-- ---- rearranged blocks

pub bit-rearranged : (p : ℕ → ℕ) (b : List ℕ) (i : ℕ) → i < 128 → bit_at (rearranged p b) i ≡ bit_at b (p i)
unfolding rearranged
bit-rearranged p b i h = bit-block_of _ i h

pub rearranged-block : (p : ℕ → ℕ) (b : List ℕ) → Block (rearranged p b)
unfolding rearranged
rearranged-block p b = is_block _

pub rearranged-twice : (p q r : ℕ → ℕ) → ((i : ℕ) → i < 128 → p i < 128) → ((i : ℕ) → i < 128 → q (p i) ≡ r i)
    → (b : List ℕ) → rearranged p (rearranged q b) ≡ rearranged r b
unfolding rearranged
rearranged-twice p q r h e b = block_of-same _ _ (λ i l. bit-block_of _ (p i) (h i l) ∙ ap (bit_at b) (e i l))

pub rearranged-same : (p : ℕ → ℕ) (b : List ℕ) → Block b → ((i : ℕ) → i < 128 → p i ≡ i) → rearranged p b ≡ b
unfolding rearranged
rearranged-same p b w e = block_of-same _ (bit_at b) (λ i h. ap (bit_at b) (e i h)) ∙ block_of-bits b w

pub rearranged-⊕ : (p : ℕ → ℕ) (a b : List ℕ) → Block a → Block b → rearranged p (a ⊕ b) ≡ rearranged p a ⊕ rearranged p b
unfolding rearranged
rearranged-⊕ p a b v w = block_of-same _ _ (λ i h. bit-⊕ v w (p i)) ∙ block_of-⊕ (λ i. bit_at a (p i)) (λ i. bit_at b (p i))

pub each_cell-block : (f : ℕ → Bool → Bool → Bool → Bool → Bool) (b : List ℕ) → Block (each_cell f b)
unfolding each_cell cells
each_cell-block f b = is_block _
