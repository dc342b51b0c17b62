-- A block of which each byte is looked up in the table of what f makes of two cells. Assumes nothing.
use Rattle.prelude.proofs.{◌≡◌, sym, ap, ◌∙◌, Bool, List, ℕ, ◌+◌, ◌*◌, ◌/◌, ◌%◌, ◌<◌, arith, get_or}
use Rattle.bits.specs.Bit.{bit, number}
use Rattle.bits.proofs.Laws.{bit-low, bit-shr, bit-number, number_lt}
use Rattle.blocks.specs.{Bytes.Bytes, Bytes.tab, Bits.bit_at, Bits.cells, Bits.each_cell}
use Rattle.blocks.proofs.ByBytes.{get_or-tab, tab-same, place, bit_byte, tab-bits}
use Rattle.lookup.specs.TwoCells.{two_cells}

module _ (f : ℕ → Bool → Bool → Bool → Bool → Bool) where
  -- bit i of the byte that f makes of b
  abbrev cell_bit : ℕ → ℕ → Bool
  cell_bit b i = f (i % 4) (bit b (4 * (i / 4) + 0)) (bit b (4 * (i / 4) + 1)) (bit b (4 * (i / 4) + 2)) (bit b (4 * (i / 4) + 3))

  two_cells-bits : (b : ℕ) → two_cells f b ≡ number 8 (cell_bit b)
  unfolding two_cells
  two_cells-bits b =
      let high : (j : ℕ) → bit (b / 16) j ≡ bit b (4 + j) = bit-shr b 4 in
      let low : (j : ℕ) → j < 4 → bit (b % 16) j ≡ bit b j = bit-low b 4 in
      (λ t. 16 * number 4 (λ j. f j (high 0 t) (high 1 t) (high 2 t) (high 3 t))
      + number 4 (λ j. f j (low 0 (omega arith) t) (low 1 (omega arith) t) (low 2 (omega arith) t) (low 3 (omega arith) t)))
      ∙ omega arith

  tab-cells : (s : List ℕ) → tab 16 (λ k. two_cells f (get_or s k 0)) ≡ each_cell f s
  unfolding each_cell cells
  tab-cells s =
      tab-same 16 _ _ (λ k _. two_cells-bits (get_or s k 0))
      ∙ tab-bits _ _ (λ k. number_lt 8 (cell_bit (get_or s k 0))) λ k i h l.
      let x : (j : ℕ) → j < 4 → bit (get_or s k 0) (4 * (i / 4) + j) ≡ bit_at s (4 * (place k i / 4) + j) =
      λ j m. sym (bit_byte s k (4 * (i / 4) + j) h (omega arith)) ∙ ap (bit_at s) (omega arith) in
      let e : i % 4 ≡ place k i % 4 = omega arith in
      bit-number 8 (cell_bit (get_or s k 0)) i l
      ∙ λ t. f (e t) (x 0 (omega arith) t) (x 1 (omega arith) t) (x 2 (omega arith) t) (x 3 (omega arith) t)

  pub looked-up : (t s : List ℕ) → Bytes s → t ≡ tab 256 (two_cells f) → tab 16 (λ k. get_or t (get_or s k 0) 0) ≡ each_cell f s
  looked-up t s b e =
      (λ i. tab 16 (λ k. get_or (e i) (get_or s k 0) 0))
      ∙ tab-same 16 _ _ (λ k h. get_or-tab 256 (two_cells f) (get_or s k 0) (b k))
      ∙ tab-cells s
