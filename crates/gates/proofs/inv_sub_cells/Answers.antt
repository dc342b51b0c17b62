-- `inv_sub_cells` meets its contract: the words are the inverse S-box's formulas. Assumes nothing.
use Rattle.prelude.proofs.{sym, ◌∙◌}
use Rattle.bits.proofs.Laws.{bit-xor, bit-and}
use Rattle.baksheesh.specs.Baksheesh.{inv_sbox}
use Rattle.words.proofs.Words.{words, ones}
use Rattle.gates.proofs.Cells.{packed-cells}
use Rattle.gates.proofs.inv_sub_cells.Goals as goal

pub returns : goal.returns
returns c =
    words _ _ _ _ _
    (λ i h. simp (bit-xor, bit-and, ones)) (λ i h. simp (bit-xor, bit-and)) (λ i h. simp (bit-xor, bit-and)) (λ i h. simp bit-xor)
    ∙ sym (packed-cells c.args.s inv_sbox)
