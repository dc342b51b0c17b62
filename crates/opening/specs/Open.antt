-- What opening answers, the link that it leaves, and its output at its end: records of any form, under any cipher C. Assumes nothing.
use Rattle.std.specs.Prelude.{not, List, [], ◌∷◌, ℕ, ◌-◌, ltb, length}
use Rattle.blocks.specs.Bytes.{same_bytes}
use Rattle.answers.specs.Answer.{Answer, done, Cause, ◌when◌, first, if_done, output}
use Rattle.links.specs.Record.{added, sequence_in, text_in, tag_in}
use Rattle.links.specs.declared.Form.{Form}
use Rattle.plain.specs.Plain.{crypted, tag_of}
use Rattle.window.specs.Window.{below, repeated}
use Rattle.readable.specs.Readable.{Readable, record_causes, record_answer}
use Rattle.opening.specs.Opener.{Opener, accepting}

-- how long the record's message is
abbrev pub message_size : Form → List ℕ → ℕ
message_size f r = length r - added f

-- ---- the record r on the link x

module _ (f : Form) (x : Opener) (r : List ℕ) where
  -- what its test answers before its number is looked at, and what passes it
  abbrev pub test_answer : Answer
  test_answer = record_answer f x.keyed x.number x.window.highest r

  abbrev pub ReadableOn : Type 0
  ReadableOn = Readable f x.keyed x.number x.window.highest r

  -- the causes of its number, before those in cs
  abbrev pub number_causes : List Cause → List Cause
  number_causes cs =
      (35 when below x.window (sequence_in f r))
      ∷ (22 when repeated x.window (sequence_in f r))
      ∷ cs

module _ (f : Form) (C : List ℕ → List ℕ → List ℕ) (x : Opener) (r : List ℕ) where
  -- the tag that the record should have, and the message that it holds
  abbrev pub right_tag : List ℕ
  right_tag = tag_of f (C x.km) x.number (sequence_in f r) (text_in f r)

  abbrev pub message_in : List ℕ
  message_in = crypted (C x.ke) x.number (sequence_in f r) (text_in f r)

  -- the cause of its tag
  abbrev pub tag_causes : List Cause
  tag_causes = (9 when not (same_bytes right_tag (tag_in f r))) ∷ []

  -- verifying its number and its tag
  abbrev pub verify_causes : List Cause
  verify_causes = number_causes f x r tag_causes

  -- opening it with room for o bytes, once it passed its test and from its test on
  abbrev pub read_causes : ℕ → List Cause
  read_causes o = (4 when ltb o (message_size f r)) ∷ verify_causes

  abbrev pub open_causes : ℕ → List Cause
  open_causes o = record_causes f x.keyed x.number x.window.highest r (read_causes o)

  unfoldable pub open_answer : ℕ → Answer
  open_answer o = first (open_causes o) (done (message_size f r ∷ []))

  abbrev pub open_link : ℕ → Opener
  open_link o = if_done (open_answer o) (accepting x (sequence_in f r)) x

  abbrev pub open_output : List ℕ → List ℕ
  open_output o = output (open_answer (length o)) message_in o
