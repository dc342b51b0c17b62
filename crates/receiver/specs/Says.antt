-- The number of each refusal of opening, and the values of what it returns. Assumes nothing.
use Rattle.std.specs.Prelude.{[], ◌∷◌, ℕ, Result}
use Rattle.answers.specs.Answer.{Answer, said}
use Rattle.readable.specs.Tested.{record_number}
use Rattle.receiver.specs.declared.OpenRefusal.{OpenRefusal}
use Rattle.receiver.specs.declared.OpenRefusal.TheVariants.{Record, ShortOutput, BelowWindow, Repeated, WrongTag}

abbrev pub open_number : OpenRefusal → ℕ
open_number (Record why) = record_number why
open_number ShortOutput = 4
open_number BelowWindow = 35
open_number Repeated = 22
open_number WrongTag = 9

abbrev pub open_says : Result ℕ OpenRefusal → Answer
open_says = said (λ n. n ∷ []) open_number
