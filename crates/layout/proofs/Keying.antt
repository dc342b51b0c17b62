-- Keying a link in its bytes refuses each cause under its number, and answers in bytes of the link's length what keying by value does,
-- of any kind of link. Assumes nothing.
use Rattle.prelude.proofs.{◌≡◌, ◌↔◌, List, [], ℕ, eqb, length, eqb-true, not-false}
use Rattle.answers.specs.Answer.{Answer, done, refused, Accepts, FirstOf}
use Rattle.answers.proofs.First.{refused-exactly, done_none, accepts-none}
use Rattle.answers.proofs.First.{eq-not}
use Rattle.links.specs.Links.{key_answer}
use Rattle.layout.specs.Keying.{keying_causes, keying_answer}

module _ (size n : ℕ) (link keys : List ℕ) where
  abbrev answer : Answer
  answer = keying_answer size n link keys

  -- each refusal of keying has exactly its cause
  pub keying-refused-exactly : (r : ℕ) → answer ≡ refused r ↔ FirstOf r (keying_causes size n link keys)
  unfolding keying_answer
  keying-refused-exactly r = refused-exactly r (keying_causes size n link keys) []

  -- where it is done, the key material has its length
  pub keying-done : Accepts answer → (answer ≡ done []) × (length keys ≡ n)
  unfolding keying_answer
  keying-done a =
      let none = accepts-none (keying_causes size n link keys) [] tt a in
      (done_none (keying_causes size n link keys) (done []) none, eqb-true (length keys) n (not-false (eqb (length keys) n) none.1.0))

  -- in bytes of the link's length, keying answers what keying by value does
  pub by_value : length link ≡ size → answer ≡ key_answer n keys
  unfolding keying_answer key_answer
  by_value s = simp (eq-not (length link) size s)
