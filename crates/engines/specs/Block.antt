-- What a block call answers, and its output at its end. Assumes nothing.
use Rattle.std.specs.Prelude.{not, ◌&&◌, List, [], ◌∷◌, ℕ, eqb, length, Result}
use Rattle.answers.specs.Answer.{Answer, done, said, ◌when◌, first, output}
use Rattle.engines.specs.declared.BlockRefusal.{BlockRefusal}
use Rattle.engines.specs.declared.BlockRefusal.TheVariants.{BadLength}

abbrev pub block_number : BlockRefusal → ℕ
block_number BadLength = 5

abbrev pub block_says : Result (Unit {0}) BlockRefusal → Answer
block_says = said (λ _. []) block_number

-- refused unless key, input and output are sixteen bytes each
unfoldable pub block_answer : List ℕ → List ℕ → List ℕ → Answer
block_answer k x o = first ((5 when not (eqb (length k) 16 && eqb (length x) 16 && eqb (length o) 16)) ∷ []) (done [])

-- the output of a call of the cipher f
abbrev pub block_output : (List ℕ → List ℕ → List ℕ) → List ℕ → List ℕ → List ℕ → List ℕ
block_output f k x o = output (block_answer k x o) (f k x) o
