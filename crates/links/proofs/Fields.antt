-- A record written field by field: its head, the ciphertext, the tag. Assumes nothing.
use Rattle.prelude.proofs.{◌≡◌, ap, ◌∙◌, List, ◌++◌, append_assoc, ℕ, ◌+◌, ◌≤◌, arith, length, take, drop, length-append, take_at, drop_at}
use Rattle.blocks.specs.Bytes.{part, put}
use Rattle.blocks.proofs.Parts.{put-start, put-put}
use Rattle.links.specs.{Record.head_size, Record.head_of, Record.record_of, declared.Form.Form}
use Rattle.links.proofs.Record.{head-length}

-- the fields before the tag, written into o one after the other
abbrev pub fields : Form → ℕ → ℕ → List ℕ → List ℕ → List ℕ
fields f n s text o = put (head_size f) text (put 0 (head_of f n s) o)

module _ (f : Form) (n s : ℕ) (text o : List ℕ) (room : head_size f + length text ≤ length o) where
  at_once : fields f n s text o ≡ put 0 (head_of f n s ++ text) o
  at_once = let h = head-length f n s in put-put 0 (head_of f n s) text o (head_size f) (omega arith) (omega arith)

  -- what stands where the ciphertext was written
  pub text-there : (k : ℕ) → k ≡ length text → part (head_size f) k (fields f n s text o) ≡ text
  text-there k e =
      ap (part (head_size f) k)
      (at_once ∙ put-start (head_of f n s ++ text) o ∙ append_assoc (head_of f n s) text (drop (length (head_of f n s ++ text)) o))
      ∙ ap (take k) (drop_at (head_of f n s) _ (head_size f) (head-length f n s))
      ∙ take_at text _ k (omega arith)

  -- with the tag behind it
  pub record-put : (tag : List ℕ) (k : ℕ) → k ≡ head_size f + length text
      → put k tag (fields f n s text o) ≡ put 0 (record_of f n s text tag) o
  unfolding record_of
  record-put tag k e =
      let h = head-length f n s in
      let l = length-append (head_of f n s) text in
      ap (put k tag) at_once
      ∙ put-put 0 (head_of f n s ++ text) tag o k (omega arith) (omega arith)
      ∙ ap (λ (z : List ℕ). put 0 z o) (append_assoc (head_of f n s) text tag)
