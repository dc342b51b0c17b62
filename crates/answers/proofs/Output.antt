-- Where the work was done, an output is as long as it was, and past what was written as it was. Assumes nothing.
use Rattle.prelude.proofs.{◌≡◌, ap, ◌∙◌, subst, List, ℕ, ◌≤◌, arith, length, drop, drop_at}
use Rattle.blocks.specs.Bytes.{put}
use Rattle.blocks.proofs.Parts.{put-start, put-length}
use Rattle.answers.specs.Answer.{Answer, done, output, Kept}
use Rattle.answers.proofs.First.{if-done}

pub output-kept : {a : Answer} {vs : List ℕ} → a ≡ done vs → (xs o : List ℕ) (n : ℕ) → length xs ≡ n → n ≤ length o
    → Kept n o (output a xs o)
output-kept e xs o n l h = subst (Kept n o) (if-done e (put 0 xs o) o) (record {
  size = put-length 0 xs o (omega arith);
  rest = ap (drop n) (put-start xs o) ∙ drop_at xs (drop (length xs) o) n l ∙ ap (λ (k : ℕ). drop k o) l;
})
