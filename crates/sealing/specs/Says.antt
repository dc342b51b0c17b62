-- The number of each refusal of shared sealing, and what it says. Assumes nothing.
use Rattle.std.specs.Prelude.{[], ◌∷◌, ℕ, Result}
use Rattle.answers.specs.Answer.{Answer, said}
use Rattle.sealable.specs.Tested.{input_number}
use Rattle.sealing.specs.declared.Sealed.{Sealed}
use Rattle.sealing.specs.declared.SealRefusal.{SealRefusal}
use Rattle.sealing.specs.declared.SealRefusal.TheVariants.{Inputs, ShortOutput}

abbrev pub seal_number : SealRefusal → ℕ
seal_number (Inputs w) = input_number w
seal_number ShortOutput = 4

abbrev pub seal_says : Result Sealed SealRefusal → Answer
seal_says = said (λ s. s.len ∷ s.used ∷ []) seal_number
