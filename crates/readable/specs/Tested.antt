-- The number of each refusal of a record, and what its test answers. Assumes nothing.
use Rattle.std.specs.Prelude.{[], ℕ, Result}
use Rattle.answers.specs.Answer.{Answer, said}
use Rattle.readable.specs.declared.RecordRefusal.{RecordRefusal}
use Rattle.readable.specs.declared.RecordRefusal.TheVariants.{NotKeyed, BadLength, OtherLink}

abbrev pub record_number : RecordRefusal → ℕ
record_number NotKeyed = 20
record_number BadLength = 7
record_number OtherLink = 8

abbrev pub record_says : {A : Type 0} → Result A RecordRefusal → Answer
record_says = said (λ _. []) record_number
