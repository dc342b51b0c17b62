-- What reading and writing a body answer, and their outputs at the end. Assumes nothing.
use Rattle.std.specs.Prelude.{Bool, not, ◌&&◌, List, [], ◌∷◌, ◌++◌, ℕ, ◌%◌, eqb, leb, ltb, length, Result}
use Rattle.answers.specs.Answer.{Answer, done, said, Cause, ◌when◌, first, output}
use Rattle.body.specs.Words.{words, has, any_bad}
use Rattle.body.specs.Mark.{mark_in, fits, written, values}
use Rattle.body.specs.declared.Mark.{Mark}
use Rattle.body.specs.declared.ReadRefusal.{ReadRefusal}
use Rattle.body.specs.declared.ReadRefusal.TheVariants.{BadLength, BadWord, MissingKind}
use Rattle.body.specs.declared.ValuesRefusal.{ValuesRefusal}
use Rattle.body.specs.declared.ValuesRefusal.TheVariants.{Body, ShortOutput as NoRoom}
use Rattle.body.specs.declared.WriteRefusal.{WriteRefusal}
use Rattle.body.specs.declared.WriteRefusal.TheVariants.{BadValue, ShortOutput}

-- ---- reading

abbrev pub read_number : ReadRefusal → ℕ
read_number BadLength = 30
read_number BadWord = 31
read_number MissingKind = 32

abbrev pub read_says : Result Mark ReadRefusal → Answer
read_says = said values read_number

-- 4 to 256 in steps of 4
abbrev pub right_length : ℕ → Bool
right_length n = leb 4 n && (leb n 256 && eqb (n % 4) 0)

-- kinds 1, 2 and 3 are needed
abbrev pub read_causes : List ℕ → List Cause
read_causes b =
    (30 when not (right_length (length b)))
    ∷ (31 when any_bad [] (words b))
    ∷ (32 when not (has 1 (words b) && (has 2 (words b) && has 3 (words b))))
    ∷ []

unfoldable pub read_answer : List ℕ → Answer
read_answer b = first (read_causes b) (done (values (mark_in (words b))))

abbrev pub values_number : ValuesRefusal → ℕ
values_number (Body why) = read_number why
values_number NoRoom = 4

abbrev pub values_says : Result Unit ValuesRefusal → Answer
values_says = said (λ _. []) values_number

-- into an output of o bytes: its values need 17
abbrev pub values_causes : List ℕ → ℕ → List Cause
values_causes b o = read_causes b ++ ((4 when ltb o 17) ∷ [])

unfoldable pub values_answer : List ℕ → ℕ → Answer
values_answer b o = first (values_causes b o) (done [])

abbrev pub values_output : List ℕ → List ℕ → List ℕ
values_output b o = output (values_answer b (length o)) (values (mark_in (words b))) o

-- ---- writing

abbrev pub write_number : WriteRefusal → ℕ
write_number BadValue = 31
write_number ShortOutput = 4

abbrev pub write_says : Result ℕ WriteRefusal → Answer
write_says = said (λ n. n ∷ []) write_number

-- into an output of o bytes
abbrev pub write_causes : Mark → ℕ → List Cause
write_causes m o = (31 when not (fits m)) ∷ (4 when ltb o (length (written m))) ∷ []

unfoldable pub write_answer : Mark → ℕ → Answer
write_answer m o = first (write_causes m o) (done (length (written m) ∷ []))

abbrev pub write_output : Mark → List ℕ → List ℕ
write_output m o = output (write_answer m (length o)) (written m) o
