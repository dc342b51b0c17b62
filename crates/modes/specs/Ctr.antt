-- Counter mode, NIST SP 800-38A section 6.5, over any block function E. Assumes nothing.
use Rattle.std.specs.Prelude.{List, [], ◌++◌, ℕ, zero, suc, length, take}
use Rattle.blocks.specs.Bytes.{◌⊕◌, block_count, piece}

module _ (E : List ℕ → List ℕ) (T : ℕ → List ℕ) (m : List ℕ) where
  -- block j under the counter block T j: a short last block takes as many leading bytes of the output block
  abbrev pub ctr_piece : ℕ → List ℕ
  ctr_piece j = piece j m ⊕ take (length (piece j m)) (E (T j))

  -- the first n blocks
  unfoldable pub ctr_to : ℕ → List ℕ
  ctr_to zero = []
  ctr_to (suc n) = ctr_to n ++ ctr_piece n

  unfoldable pub ctr : List ℕ
  ctr = ctr_to (block_count (length m))
