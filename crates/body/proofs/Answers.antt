-- What reading into an output answers, where a mark is read. Assumes nothing.
use Rattle.prelude.proofs.{◌≡◌, sym, ◌∙◌, List, [], ◌∷◌, ℕ, ◌≤◌, ltb, le-ltb}
use Rattle.answers.specs.Answer.{done, ◌when◌}
use Rattle.answers.proofs.First.{done-before}
use Rattle.body.specs.{Words.words, Mark.mark_in, Mark.values}
use Rattle.body.specs.Entry.{read_causes, read_answer, values_answer}

module _ (b : List ℕ) {vs : List ℕ} (e : done vs ≡ read_answer b) where
  pub values-read : values (mark_in (words b)) ≡ vs
  unfolding read_answer
  values-read = (done-before (read_causes b) [] _ vs (done []) (sym e)).0

  pub values-done : (o : ℕ) → 17 ≤ o → values_answer b o ≡ done []
  unfolding read_answer values_answer
  values-done o h = (done-before (read_causes b) ((4 when ltb o 17) ∷ []) _ vs (done []) (sym e)).1 ∙ simp (le-ltb o 17 h)
