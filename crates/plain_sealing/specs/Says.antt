-- The number of each refusal of plain sealing, and the values of what it returns. Assumes nothing.
use Rattle.std.specs.Prelude.{[], ◌∷◌, ℕ, Result}
use Rattle.answers.specs.Answer.{Answer, said}
use Rattle.plain_sealing.specs.declared.PlainRefusal.{PlainRefusal}
use Rattle.plain_sealing.specs.declared.PlainRefusal.TheVariants.{BadKeys, BadSequence, LongMessage, ShortOutput}

abbrev pub plain_number : PlainRefusal → ℕ
plain_number BadKeys = 1
plain_number BadSequence = 10
plain_number LongMessage = 2
plain_number ShortOutput = 4

abbrev pub plain_says : Result ℕ PlainRefusal → Answer
plain_says = said (λ n. n ∷ []) plain_number
