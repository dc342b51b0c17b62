-- The number of what a function says. Assumes nothing.
use Rattle.prelude.proofs.{◌≡◌, List, ℕ}
use Rattle.std.specs.Prelude.{Result, Ok, Err, OnOk, IfErr}
use Rattle.answers.specs.Answer.{number_of, said}

-- c is 0 where r is a value, and the number of a refusal
pub number-said : {A E : Type 0} (v : A → List ℕ) (n : E → ℕ) (r : Result A E) {c : ℕ} → OnOk r (c ≡ 0) → IfErr r (λ e. c ≡ n e)
    → c ≡ number_of (said v n r)
number-said v n (Ok x) z e = z
number-said v n (Err w) z e = e
