-- Openings in turn on one link of records of the form f, as a history takes them: under any cipher C. Assumes nothing.
use Rattle.std.specs.Prelude.{List, ℕ}
use Rattle.blocks.specs.Bytes.{Bytes}
use Rattle.answers.specs.Answer.{Answer}
use Rattle.links.specs.Record.{sequence_in}
use Rattle.links.specs.declared.Form.{Form}
use Rattle.opening.specs.Opener.{Opener}
use Rattle.opening.specs.Open.{open_answer, open_link}

-- what an opening is asked for: a record, and room for so many bytes
pub record Request : Type 0 where
  pub sealed : List ℕ
  pub bytes : Bytes sealed
  pub room : ℕ

module _ (f : Form) (C : List ℕ → List ℕ → List ℕ) (x : Opener) (q : Request) where
  abbrev pub answer_to : Answer
  answer_to = open_answer f C x q.sealed q.room

  abbrev pub link_left : Opener
  link_left = open_link f C x q.sealed q.room

-- the number that its record carries on the link that it meets
abbrev pub number_offered : Form → Opener → Request → ℕ
number_offered f x q = sequence_in f q.sealed
