-- The S-box's bit form is the printed table and its inverse's the inverse table; the bit move takes bit i to its
-- printed place; key rotations add up. Assumes nothing.
use Rattle.prelude.proofs.{◌≡◌, sym, ap, ◌∙◌, Bool, List, ℕ, zero, suc, ◌<◌, arith, T, ltb, ltb→lt, get_or}
use Rattle.bits.specs.Bit.{bit}
use Rattle.bits.proofs.Test.{each, below, agree}
use Rattle.blocks.specs.{Bytes.Block, Bits.bit_at}
use Rattle.blocks.proofs.ByBits.{is_block, bit-rearranged, rearranged-twice, rearranged-same, rearranged-block}
use Rattle.blocks.proofs.Xor.{⊕-block}
use Rattle.baksheesh.specs.Baksheesh.{sbox_table, inv_sbox_table, sbox, inv_sbox, cell_of}
use Rattle.baksheesh.specs.Baksheesh.{perm_table, to, from, perm_bits, constant, rotated, round, after}

-- ---- SubCells

pub sbox-table : (x : ℕ) → x < 16 → cell_of sbox x ≡ get_or sbox_table x 0
unfolding bit
sbox-table = agree 16 (cell_of sbox) (λ x. get_or sbox_table x 0) tt

pub inv_sbox-table : (x : ℕ) → x < 16 → cell_of inv_sbox x ≡ get_or inv_sbox_table x 0
unfolding bit
inv_sbox-table = agree 16 (cell_of inv_sbox) (λ x. get_or inv_sbox_table x 0) tt

pub tables-undo : (x : ℕ) → x < 16 → get_or inv_sbox_table (get_or sbox_table x 0) 0 ≡ x
tables-undo = agree 16 (λ x. get_or inv_sbox_table (get_or sbox_table x 0) 0) (λ x. x) tt

pub tables-redo : (x : ℕ) → x < 16 → get_or sbox_table (get_or inv_sbox_table x 0) 0 ≡ x
tables-redo = agree 16 (λ x. get_or sbox_table (get_or inv_sbox_table x 0) 0) (λ x. x) tt

-- ---- PermBits

-- p stays below 128
abbrev pub inside : (ℕ → ℕ) → Bool
inside p = each 128 (λ i. ltb (p i) 128)

pub at-inside : (p : ℕ → ℕ) → T (inside p) → (i : ℕ) → i < 128 → p i < 128
at-inside p t i h = ltb→lt (p i) 128 (below 128 (λ i. ltb (p i) 128) t i h)

pub from-to : (i : ℕ) → i < 128 → from (to i) ≡ i
from-to = agree 128 (λ i. from (to i)) (λ i. i) tt

pub to-from : (i : ℕ) → i < 128 → to (from i) ≡ i
to-from = agree 128 (λ i. to (from i)) (λ i. i) tt

pub to-table : (i : ℕ) → i < 128 → to i ≡ get_or perm_table i 0
to-table = agree 128 to (λ i. get_or perm_table i 0) tt

-- bit i goes to its place
pub bit-perm_bits : (b : List ℕ) (i : ℕ) → i < 128 → bit_at (perm_bits b) (get_or perm_table i 0) ≡ bit_at b i
bit-perm_bits b i h = rw (sym (to-table i h)) (bit-rearranged from b (to i) (at-inside to tt i h) ∙ ap (bit_at b) (from-to i h))

-- ---- the key

pub rotated-zero : (k : List ℕ) → Block k → rotated 0 k ≡ k
rotated-zero k w = rearranged-same _ k w (λ i h. omega arith)

pub rotated-suc : (n : ℕ) (k : List ℕ) → rotated 1 (rotated n k) ≡ rotated (suc n) k
rotated-suc n k = rearranged-twice _ _ _ (λ i h. omega arith) (λ i h. omega arith) k

pub rotated-back : (n : ℕ) (k : List ℕ) → rotated 127 (rotated (suc n) k) ≡ rotated n k
rotated-back n k = rearranged-twice _ _ _ (λ i h. omega arith) (λ i h. omega arith) k

-- ---- states are blocks

pub constant-block : (n : ℕ) → Block (constant n)
unfolding constant
constant-block n = is_block _

pub round-block : (n : ℕ) {k : List ℕ} (s : List ℕ) → Block k → Block (round n k s)
round-block n s p = ⊕-block (⊕-block (rearranged-block from _) (constant-block n)) p

pub after_block : (n : ℕ) (k x : List ℕ) → Block x → Block (after n k x)
unfolding after
after_block zero k x w = w
after_block (suc n) k x w = round-block n (after n k x) (rearranged-block _ k)
