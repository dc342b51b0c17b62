-- Openings in turn on one link in its bytes, as a history takes them. Assumes nothing.
use Rattle.std.specs.Prelude.{List, ℕ}
use Rattle.answers.specs.Answer.{Answer}
use Rattle.opening.specs.History.{Request, number_offered}
use Rattle.receiver.specs.Receivers.{opener_of, receiver_form}
use Rattle.receiving.specs.Stored.{receiver_in}
use Rattle.receiving.specs.Calls.{opened_answer, opened_link}

abbrev pub answer_on : List ℕ → Request → Answer
answer_on link q = opened_answer link q.sealed q.room

abbrev pub bytes_left : List ℕ → Request → List ℕ
bytes_left link q = opened_link link q.sealed q.room

abbrev pub number_on : List ℕ → Request → ℕ
number_on link q = let x = receiver_in link in number_offered (receiver_form x) (opener_of x) q
