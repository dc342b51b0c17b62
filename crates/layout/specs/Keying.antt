-- Keying a link in its bytes: 1 for bytes of another length, and then what keying by value answers. Assumes nothing.
use Rattle.std.specs.Prelude.{not, List, [], ◌∷◌, ℕ, eqb, length}
use Rattle.answers.specs.Answer.{Answer, done, Cause, ◌when◌, first}
use Rattle.links.specs.Links.{key_causes}

-- a link of that size, with n bytes of keys
abbrev pub keying_causes : ℕ → ℕ → List ℕ → List ℕ → List Cause
keying_causes size n link keys = (1 when not (eqb (length link) size)) ∷ key_causes n keys

unfoldable pub keying_answer : ℕ → ℕ → List ℕ → List ℕ → Answer
keying_answer size n link keys = first (keying_causes size n link keys) (done [])
