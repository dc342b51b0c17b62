-- What stands in a list after a write: before it, there, and behind it. Assumes nothing.
use Rattle.prelude.proofs.{◌≡◌, sym, ap, ◌∙◌, List, ◌++◌, append_assoc, ℕ, ◌+◌, ◌≤◌, length, take, drop, length-append, take_at, drop_at}
use Rattle.prelude.proofs.{length-take-le}
use Rattle.blocks.specs.Bytes.{part, put}
use Rattle.blocks.proofs.Parts.{part-take}

module _ (at : ℕ) (xs o : List ℕ) (h : at ≤ length o) where
  pub before-put : take at (put at xs o) ≡ take at o
  unfolding put
  before-put = take_at (take at o) _ at (length-take-le at o h)

  pub part-before : (p n : ℕ) → p + n ≤ at → part p n (put at xs o) ≡ part p n o
  part-before p n l = sym (part-take p n at (put at xs o) l) ∙ ap (part p n) before-put ∙ part-take p n at o l

  pub part-there : (n : ℕ) → length xs ≡ n → part at n (put at xs o) ≡ xs
  unfolding put
  part-there n e = ap (take n) (drop_at (take at o) _ at (length-take-le at o h)) ∙ take_at xs _ n e

  pub behind-put : drop (at + length xs) (put at xs o) ≡ drop (at + length xs) o
  unfolding put
  behind-put =
      ap (drop (at + length xs)) (sym (append_assoc (take at o) xs (drop (at + length xs) o)))
      ∙ drop_at (take at o ++ xs) _ (at + length xs) (simp (length-append, length-take-le at o h))
