-- Operations in turn, worked on states and requests that are numbers: each is answered and numbered on the state that it meets.
-- Assumes nothing.
use Rattle.std.specs.Prelude.{cond, List, [], ◌∷◌, map, ℕ, ◌+◌, ◌*◌, leb}
use Rattle.answers.specs.Answer.{Answer, done, refused}
use Rattle.history.specs.History.{state_after, accepted_by, among}
use Rattle.values.specs.Row.{Row, ◌is◌}

-- a request writes its digit behind the state's, whatever is answered; it is refused where the state that it meets is above 999
abbrev pub written : ℕ → ℕ → ℕ
written x q = 10 * x + q

abbrev pub answer_to : ℕ → ℕ → Answer
answer_to x q = cond (leb x 999) (done []) (refused q)

-- its number has the state in front
abbrev pub number_on : ℕ → ℕ → ℕ
number_on x q = 100 * x + q

-- from the state 5, with the newest request first
abbrev pub accepted_of : List ℕ → List ℕ
accepted_of = accepted_by written 5 answer_to number_on

abbrev pub history_rows : List Row
history_rows =
    (map (state_after written 5) ([] ∷ (1 ∷ []) ∷ (3 ∷ 2 ∷ 1 ∷ []) ∷ []) is (5 ∷ 51 ∷ 5123 ∷ []))
    -- 1, 2 and 3 are accepted on 5, 51 and 512; 4 meets 5123 and is refused
    ∷ (accepted_of (3 ∷ 2 ∷ 1 ∷ []) is (51203 ∷ 5102 ∷ 501 ∷ []))
    ∷ (accepted_of (4 ∷ 3 ∷ 2 ∷ 1 ∷ []) is (51203 ∷ 5102 ∷ 501 ∷ []))
    ∷ (map (λ s. cond (among s (7 ∷ 8 ∷ 9 ∷ [])) 1 0) (6 ∷ 7 ∷ 8 ∷ 9 ∷ 10 ∷ []) is (0 ∷ 1 ∷ 1 ∷ 1 ∷ 0 ∷ []))
    ∷ []
