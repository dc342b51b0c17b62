-- `sub_cells` meets its contract: each bit is the S-box's formula, or one that agrees with it at all sixteen cells.
-- Assumes nothing.
use Rattle.prelude.proofs.{sym, ◌∙◌, Bool, ◌&&◌, ℕ, get_or}
use Rattle.bits.specs.Bit.{bit, ◌⊻◌}
use Rattle.bits.proofs.{Laws.bit-xor, Laws.bit-and, Test.four-bits}
use Rattle.baksheesh.specs.Baksheesh.{sbox}
use Rattle.words.proofs.Words.{words, ones}
use Rattle.gates.proofs.Cells.{packed-cells}
use Rattle.gates.proofs.sub_cells.Goals as goal

pub returns : goal.returns
returns c =
    let x : ℕ → ℕ → Bool = λ j i. bit (get_or c.args.s j 0) i in
    let bit0 = four-bits (λ a b c d. sbox 1 a b c d ⊻ ((a && c) ⊻ (b && c) ⊻ b)) (sbox 0) tt in
    let bit3 = four-bits (λ a b c d. (a && (b ⊻ c)) ⊻ c ⊻ d) (sbox 3) tt in
    words _ _ _ _ _
    (λ i h. simp (bit-xor, bit-and, ones) (bit0 (x 0 i) (x 1 i) (x 2 i) (x 3 i)))
    (λ i h. simp (bit-xor, bit-and, ones))
    (λ i h. simp (bit-xor, bit-and))
    (λ i h. simp (bit-xor, bit-and) (bit3 (x 0 i) (x 1 i) (x 2 i) (x 3 i)))
    ∙ sym (packed-cells c.args.s sbox)
