-- Counter mode written block by block: the first j blocks of m, in o from at. Assumes nothing.
use Rattle.prelude.proofs.{◌≡◌, sym, ap, ◌∙◌, List, ◌++◌, ℕ, ◌+◌, ◌*◌, ◌≤◌, ◌<◌, arith, length}
use Rattle.blocks.specs.Bytes.{◌⊕◌, put, block_count, piece}
use Rattle.blocks.proofs.Parts.{put-none, put-length, put-put}
use Rattle.modes.specs.Ctr.{ctr_to, ctr}
use Rattle.modes.proofs.Ctr.{ctr_piece-⊕, ctr_to-zero, ctr_to-more, ctr_to-all, ctr_to-length}

module _ (E : List ℕ → List ℕ) (T : ℕ → List ℕ) (m : List ℕ) (at : ℕ) (o : List ℕ) where
  abbrev pub written : ℕ → List ℕ
  written j = put at (ctr_to E T m j) o

  pub written_none : o ≡ written 0
  written_none = sym (ap (λ (z : List ℕ). put at z o) (ctr_to-zero E T m) ∙ put-none at o)

  pub written_all : (j : ℕ) → j ≡ block_count (length m) → written j ≡ put at (ctr E T m) o
  written_all j e = ap (λ (z : List ℕ). put at z o) (ctr_to-all E T m j e)

  module _ (sized : (j : ℕ) → j < block_count (length m) → length (E (T j)) ≡ 16) (room : at + length m ≤ length o) where
    pub written-length : (j : ℕ) → j ≤ block_count (length m) → length (written j) ≡ length o
    written-length j h = put-length at _ o (omega (arith, ctr_to-length E T m sized j h))

    pub written-more : (j : ℕ) → j < block_count (length m) → put (at + 16 * j) (piece j m ⊕ E (T j)) (written j) ≡ written (j + 1)
    written-more j h =
        let l = ctr_to-length E T m sized j (omega arith) in
        put-put at _ _ o (at + 16 * j) (omega arith) (omega arith)
        ∙ ap (λ (z : List ℕ). put at (ctr_to E T m j ++ z) o) (sym (ctr_piece-⊕ E T m j))
        ∙ ap (λ (z : List ℕ). put at z o) (sym (ctr_to-more E T m j))
