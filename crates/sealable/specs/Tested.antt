-- The number of each refusal of a sealing's inputs, and what their test says. Assumes nothing.
use Rattle.std.specs.Prelude.{[], ℕ, Result}
use Rattle.answers.specs.Answer.{Answer, said}
use Rattle.sealable.specs.declared.InputRefusal.{InputRefusal}
use Rattle.sealable.specs.declared.InputRefusal.TheVariants.{NotKeyed, NumbersUsed, LongMessage, ShortTape}

abbrev pub input_number : InputRefusal → ℕ
input_number NotKeyed = 20
input_number NumbersUsed = 21
input_number LongMessage = 2
input_number ShortTape = 3

abbrev pub input_says : Result (Unit {0}) InputRefusal → Answer
input_says = said (λ _. []) input_number
