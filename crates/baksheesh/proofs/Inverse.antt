-- Encryption and decryption undo each other, step by step. Assumes nothing.
use Rattle.prelude.proofs.{◌≡◌, refl, sym, ap, ◌∙◌, Bool, List, ℕ, zero, suc, ◌+◌, ◌*◌, ◌<◌, arith, T}
use Rattle.bits.proofs.Test.{four, four-bits, agree₄}
use Rattle.blocks.specs.{Bytes.Block, Bytes.◌⊕◌, Bits.bit_at, Bits.each_cell}
use Rattle.blocks.proofs.Xor.{⊕-block, ⊕-again}
use Rattle.blocks.proofs.ByBits.{block_of-bits, block_of-cells, bit-cells, cells_same, each_cell-block, rearranged-twice, rearranged-same}
use Rattle.blocks.proofs.ByBits.{rearranged-block}
use Rattle.baksheesh.specs.Baksheesh.{rounds, sbox, inv_sbox, to, from, sub_cells, inv_sub_cells, perm_bits, inv_perm_bits}
use Rattle.baksheesh.specs.Baksheesh.{rotated, constant, round, inv_round, after, before, encrypt, decrypt}
use Rattle.baksheesh.proofs.Steps.{at-inside, from-to, to-from, constant-block, after_block}

-- ---- cells

-- bit j of what g makes of the cell that f makes of x₀, x₁, x₂, x₃
abbrev then_of : (f g : ℕ → Bool → Bool → Bool → Bool → Bool) → ℕ → Bool → Bool → Bool → Bool → Bool
then_of f g j x₀ x₁ x₂ x₃ = g j (f 0 x₀ x₁ x₂ x₃) (f 1 x₀ x₁ x₂ x₃) (f 2 x₀ x₁ x₂ x₃) (f 3 x₀ x₁ x₂ x₃)

-- g undoes f on each cell where it does on each of the sixteen
cells-undo : (f g : ℕ → Bool → Bool → Bool → Bool → Bool)
    → T (agree₄ (then_of f g 0) (λ a b c d. a)) → T (agree₄ (then_of f g 1) (λ a b c d. b))
    → T (agree₄ (then_of f g 2) (λ a b c d. c)) → T (agree₄ (then_of f g 3) (λ a b c d. d))
    → (b : List ℕ) → Block b → each_cell g (each_cell f b) ≡ b
unfolding each_cell
cells-undo f g t₀ t₁ t₂ t₃ b w =
    cells_same _ x go ∙ sym (block_of-cells (bit_at b)) ∙ block_of-bits b w
  where
    x : ℕ → ℕ → Bool
    x c j = bit_at b (4 * c + j)

    y : ℕ → ℕ → Bool
    y c j = f j (x c 0) (x c 1) (x c 2) (x c 3)

    go : (c j : ℕ) → c < 32 → j < 4
        → g j (bit_at (each_cell f b) (4 * c + 0)) (bit_at (each_cell f b) (4 * c + 1)) (bit_at (each_cell f b) (4 * c + 2))
        (bit_at (each_cell f b) (4 * c + 3)) ≡ x c j
    go c j h l =
        let e = bit-cells y c in
        simp (e 0 h (omega arith), e 1 h (omega arith), e 2 h (omega arith), e 3 h (omega arith))
        (four (λ j. then_of f g j (x c 0) (x c 1) (x c 2) (x c 3) ≡ x c j)
        (four-bits (then_of f g 0) (λ a b c d. a) t₀ (x c 0) (x c 1) (x c 2) (x c 3))
        (four-bits (then_of f g 1) (λ a b c d. b) t₁ (x c 0) (x c 1) (x c 2) (x c 3))
        (four-bits (then_of f g 2) (λ a b c d. c) t₂ (x c 0) (x c 1) (x c 2) (x c 3))
        (four-bits (then_of f g 3) (λ a b c d. d) t₃ (x c 0) (x c 1) (x c 2) (x c 3)) j l)

sub-undone : (b : List ℕ) → Block b → inv_sub_cells (sub_cells b) ≡ b
sub-undone = cells-undo sbox inv_sbox tt tt tt tt

sub-redone : (b : List ℕ) → Block b → sub_cells (inv_sub_cells b) ≡ b
sub-redone = cells-undo inv_sbox sbox tt tt tt tt

perm-undone : (b : List ℕ) → Block b → inv_perm_bits (perm_bits b) ≡ b
perm-undone b w = rearranged-twice to from (λ i. i) (at-inside to tt) from-to b ∙ rearranged-same (λ i. i) b w (λ i h. refl)

perm-redone : (b : List ℕ) → Block b → perm_bits (inv_perm_bits b) ≡ b
perm-redone b w = rearranged-twice from to (λ i. i) (at-inside from tt) to-from b ∙ rearranged-same (λ i. i) b w (λ i h. refl)

-- ---- rounds

round-undone : (n : ℕ) {k s : List ℕ} → Block k → Block s → inv_round n k (round n k s) ≡ s
round-undone n {k} {s} p q =
    let moved = rearranged-block from (sub_cells s) in
    ap (λ (y : List ℕ). inv_sub_cells (inv_perm_bits (y ⊕ constant n))) (⊕-again (⊕-block moved (constant-block n)) p)
    ∙ ap (λ (y : List ℕ). inv_sub_cells (inv_perm_bits y)) (⊕-again moved (constant-block n))
    ∙ ap inv_sub_cells (perm-undone (sub_cells s) (each_cell-block sbox s))
    ∙ sub-undone s q

round-redone : (n : ℕ) {k s : List ℕ} → Block k → Block s → round n k (inv_round n k s) ≡ s
round-redone n {k} {s} p q =
    let y = (s ⊕ k) ⊕ constant n in
    let b = ⊕-block (⊕-block q p) (constant-block n) in
    ap (λ (z : List ℕ). (perm_bits z ⊕ constant n) ⊕ k) (sub-redone (inv_perm_bits y) (rearranged-block to y))
    ∙ ap (λ (z : List ℕ). (z ⊕ constant n) ⊕ k) (perm-redone y b)
    ∙ ap (λ (z : List ℕ). z ⊕ k) (⊕-again (⊕-block q p) (constant-block n))
    ∙ ⊕-again q p

before-after : (n : ℕ) (k x : List ℕ) → Block x → before n k (after n k x) ≡ x
unfolding before after
before-after zero k x w = refl
before-after (suc n) k x w =
    ap (before n k) (round-undone n (rearranged-block _ k) (after_block n k x w)) ∙ before-after n k x w

after-before : (n : ℕ) (k x : List ℕ) → Block x → after n k (before n k x) ≡ x
unfolding before after
after-before zero k x w = refl
after-before (suc n) k x w =
    ap (round n (rotated (suc n) k)) (after-before n k (inv_round n (rotated (suc n) k) x) (each_cell-block inv_sbox _))
    ∙ round-redone n (rearranged-block _ k) w

before-block : (n : ℕ) (k x : List ℕ) → Block x → Block (before n k x)
unfolding before
before-block zero k x w = w
before-block (suc n) k x w = before-block n k _ (each_cell-block inv_sbox _)

-- ---- the cipher

pub decrypt-encrypt : (k x : List ℕ) → Block k → Block x → decrypt k (encrypt k x) ≡ x
unfolding decrypt encrypt
decrypt-encrypt k x p q =
    ap (λ (y : List ℕ). y ⊕ k) (before-after rounds k (x ⊕ k) (⊕-block q p)) ∙ ⊕-again q p

pub encrypt-decrypt : (k x : List ℕ) → Block k → Block x → encrypt k (decrypt k x) ≡ x
unfolding decrypt encrypt
encrypt-decrypt k x p q =
    ap (after rounds k) (⊕-again (before-block rounds k x q) p) ∙ after-before rounds k x q

pub encrypt-block : (k x : List ℕ) → Block k → Block x → Block (encrypt k x)
unfolding encrypt
encrypt-block k x p q = after_block rounds k (x ⊕ k) (⊕-block q p)
