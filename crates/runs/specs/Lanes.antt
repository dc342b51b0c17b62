-- Which lanes a report can show, and how it refuses the others. Assumes nothing.
use Rattle.std.specs.Prelude.{◌≡◌, ◌↔◌, Bool, not, ◌&&◌, List, [], ◌∷◌, ℕ, ◌≤◌, ◌<◌, leb, ltb}
use Rattle.answers.specs.Answer.{Answer, refused, Accepts, Cause, ◌when◌}

-- n is one of a to b: the test, and what it tests
abbrev pub within : ℕ → ℕ → ℕ → Bool
within a b n = leb a n && leb n b

abbrev pub Within : ℕ → ℕ → ℕ → Type 0
Within a b n = (a ≤ n) × (n ≤ b)

-- the bytes of a lane: two shares of the state and one of the key
abbrev pub lane_size : ℕ
lane_size = 48

-- the causes of a report with room for o bytes: of lane i of round r, where a call shows p rounds
abbrev pub round_causes : ℕ → ℕ → ℕ → ℕ → List Cause
round_causes p r i o = (33 when not (within 1 p r)) ∷ (34 when not (within 0 2 i)) ∷ (4 when ltb o lane_size) ∷ []

-- and before them of call k, where there are c calls
abbrev pub lane_causes : ℕ → ℕ → ℕ → ℕ → ℕ → ℕ → List Cause
lane_causes c p k r i o = (6 when not (within 1 c k)) ∷ round_causes p r i o

-- the answer a tells which of the three numbers is wrong, the call's before the round's before the lane's; else whether there is room
pub record TellsNumber (c p k r i o : ℕ) (a : Answer) : Type 0 where
  pub bad-call : a ≡ refused 6 ↔ (Within 1 c k → ⊥)
  pub bad-round : a ≡ refused 33 ↔ (Within 1 c k × (Within 1 p r → ⊥))
  pub bad-lane : a ≡ refused 34 ↔ (Within 1 c k × (Within 1 p r × (Within 0 2 i → ⊥)))
  pub no_room : a ≡ refused 4 ↔ (Within 1 c k × (Within 1 p r × (Within 0 2 i × (o < lane_size))))
  pub shown : Accepts a ↔ (Within 1 c k × (Within 1 p r × (Within 0 2 i × (lane_size ≤ o))))
