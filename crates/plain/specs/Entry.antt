-- What plain sealing answers, and its output at its end: records of any form, under any cipher C. Assumes nothing.
use Rattle.std.specs.Prelude.{not, List, [], ◌∷◌, ℕ, eqb, ltb, length}
use Rattle.blocks.specs.Bytes.{part}
use Rattle.answers.specs.Answer.{Answer, done, Cause, ◌when◌, first, output}
use Rattle.links.specs.Record.{longest, record_size, greatest}
use Rattle.links.specs.declared.Form.{Form}
use Rattle.plain.specs.Plain.{plain_record}

-- the bytes of key material: KE, then KM
abbrev pub plain_keys : ℕ
plain_keys = 32

-- sealing the message m under the given keys and the sequence number s, with room for o bytes
abbrev pub plain_causes : Form → List ℕ → ℕ → List ℕ → ℕ → List Cause
plain_causes f keys s m o =
    (1 when not (eqb (length keys) plain_keys))
    ∷ (10 when eqb s 0)
    ∷ (10 when ltb (greatest f) s)
    ∷ (2 when ltb longest (length m))
    ∷ (4 when ltb o (record_size f (length m)))
    ∷ []

unfoldable pub plain_answer : Form → List ℕ → ℕ → List ℕ → ℕ → Answer
plain_answer f keys s m o = first (plain_causes f keys s m o) (done (record_size f (length m) ∷ []))

-- on the link number n
abbrev pub plain_output : Form → (List ℕ → List ℕ → List ℕ) → List ℕ → ℕ → ℕ → List ℕ → List ℕ → List ℕ
plain_output f C keys n s m o =
    output (plain_answer f keys s m (length o)) (plain_record f (C (part 0 16 keys)) (C (part 16 16 keys)) n s m) o
