-- Operations in turn on one state, and the numbers of those accepted: over any states X and any requests Q. Assumes nothing.
use Rattle.std.specs.Prelude.{◌≡◌, Bool, false, cond, ◌||◌, List, [], ◌∷◌, ℕ, eqb}
use Rattle.answers.specs.Answer.{Answer, number_of}

-- ---- operations in turn, each on the state that the one before left; lists of them have the newest first

-- an operation q on a state x leaves the state `next x q`
module _ {X Q : Type 0} (next : X → Q → X) (x : X) where
  -- the state that they leave
  abbrev pub state_after : List Q → X
  state_after [] = x
  state_after (q ∷ qs) = next (state_after qs) q

  -- the numbers of those accepted, for which 0 was answered: each has the number that it has on the state it meets
  module _ (answer : X → Q → Answer) (number : X → Q → ℕ) where
    abbrev pub accepted_by : List Q → List ℕ
    accepted_by [] = []
    accepted_by (q ∷ qs) =
        let y = state_after qs in
        cond (eqb (number_of (answer y q)) 0) (number y q ∷ accepted_by qs) (accepted_by qs)

-- ---- numbers

-- whether s is one of them
abbrev pub among : ℕ → List ℕ → Bool
among s [] = false
among s (t ∷ ts) = eqb s t || among s ts

-- none stands twice
abbrev pub Distinct : List ℕ → Type 0
Distinct [] = Unit {0}
Distinct (s ∷ ss) = (among s ss ≡ false) × Distinct ss
