-- What keying answers, by the place of its first cause. Assumes nothing.
use Rattle.prelude.proofs.{◌≡◌, List, [], ℕ, take}
use Rattle.answers.specs.Answer.{done, refused, NoneOf}
use Rattle.answers.proofs.First.{Applies, number_at, refused-at, done_none}
use Rattle.links.specs.Links.{key_causes, key_answer}

module _ (n : ℕ) (keys : List ℕ) where
  pub key-refused : (k : ℕ) → NoneOf (take k (key_causes n keys)) → Applies k (key_causes n keys)
      → key_answer n keys ≡ refused (number_at k (key_causes n keys))
  unfolding key_answer
  key-refused k = refused-at k (key_causes n keys) _

  pub key-done : NoneOf (key_causes n keys) → key_answer n keys ≡ done []
  unfolding key_answer
  key-done = done_none (key_causes n keys) _
