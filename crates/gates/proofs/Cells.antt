-- A step that makes each cell from its own four bits, on a block in packed form. Assumes nothing.
use Rattle.prelude.proofs.{◌≡◌, Bool, List, ℕ, arith, get_or}
use Rattle.bits.specs.Bit.{bit}
use Rattle.blocks.specs.Bits.{cells, each_cell}
use Rattle.blocks.proofs.ByBits.{cells_same}
use Rattle.words.specs.Words.{unpacked}
use Rattle.words.proofs.Words.{bit-unpacked}

pub packed-cells : (s : List ℕ) (f : ℕ → Bool → Bool → Bool → Bool → Bool)
    → each_cell f (unpacked s) ≡ cells (λ c j. f j (bit (get_or s 0 0) c) (bit (get_or s 1 0) c) (bit (get_or s 2 0) c) (bit (get_or s 3 0) c))
unfolding each_cell
packed-cells s f =
    cells_same _ _ λ c j h _ i.
    f j (bit-unpacked s c 0 h (omega arith) i) (bit-unpacked s c 1 h (omega arith) i)
    (bit-unpacked s c 2 h (omega arith) i) (bit-unpacked s c 3 h (omega arith) i)
