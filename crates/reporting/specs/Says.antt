-- The number of each refusal of the lane report, and what it says. Assumes nothing.
use Rattle.std.specs.Prelude.{[], ℕ, Result}
use Rattle.answers.specs.Answer.{Answer, said}
use Rattle.walks.specs.Tested.{lane_number}
use Rattle.sealable.specs.Tested.{input_number}
use Rattle.reporting.specs.declared.ReportRefusal.{ReportRefusal}
use Rattle.reporting.specs.declared.ReportRefusal.TheVariants.{Inputs, Lane}

abbrev pub report_number : ReportRefusal → ℕ
report_number (Inputs w) = input_number w
report_number (Lane w) = lane_number w

abbrev pub report_says : Result (Unit {0}) ReportRefusal → Answer
report_says = said (λ _. []) report_number
