-- What is tested of a record before its number, and what passes: records of any form. Assumes nothing.
use Rattle.std.specs.Prelude.{◌≡◌, Bool, true, not, List, [], ◌∷◌, ℕ, ◌≤◌, eqb, ltb, length}
use Rattle.answers.specs.Answer.{Answer, done, Cause, ◌when◌, first}
use Rattle.links.specs.Record.{longest, added, record_size, usable, link_in}
use Rattle.links.specs.declared.Form.{Form}

-- bytes as many as a record of that form can have
pub record RecordSized (f : Form) (r : List ℕ) : Type 0 where
  pub low : added f ≤ length r
  pub high : length r ≤ record_size f longest

-- the record r, for the link number n, keyed or not, with the highest number h accepted
module _ (f : Form) (k : Bool) (n h : ℕ) (r : List ℕ) where
  -- its causes, before those in cs
  abbrev pub record_causes : List Cause → List Cause
  record_causes cs =
      (20 when not (usable f k h))
      ∷ (7 when ltb (length r) (record_size f 0))
      ∷ (7 when ltb (record_size f longest) (length r))
      ∷ (8 when not (eqb (link_in r) n))
      ∷ cs

  unfoldable pub record_answer : Answer
  record_answer = first (record_causes []) (done [])

  -- none of them applies
  pub record Readable : Type 0 where
    pub keyed : usable f k h ≡ true
    pub sized : RecordSized f r
    pub link : link_in r ≡ n
