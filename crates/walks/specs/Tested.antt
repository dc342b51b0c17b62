-- What the test of a lane's numbers says. Assumes nothing.
use Rattle.std.specs.Prelude.{⊤, [], ℕ, Result}
use Rattle.answers.specs.Answer.{Answer, said}
use Rattle.walks.specs.declared.LaneRefusal.{LaneRefusal}
use Rattle.walks.specs.declared.LaneRefusal.TheVariants.{BadCall, BadRound, BadLane, ShortOutput}

-- the number of a refusal
abbrev pub lane_number : LaneRefusal → ℕ
lane_number BadCall = 6
lane_number BadRound = 33
lane_number BadLane = 34
lane_number ShortOutput = 4

-- what the test says: the lane is shown, or refused under that number
abbrev pub lane_says : Result ⊤ LaneRefusal → Answer
lane_says = said (λ _. []) lane_number
