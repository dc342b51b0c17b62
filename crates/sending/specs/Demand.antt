-- The words of the statements on calls: an accepted sealing on a link in its bytes, and what a probed lane shows. Assumes nothing.
use Rattle.std.specs.Prelude.{List, ℕ, length}
use Rattle.blocks.specs.Bytes.{Bytes}
use Rattle.answers.specs.Answer.{Accepts}
use Rattle.runs.specs.Reported.{Reported}
use Rattle.calls.specs.Sealed.{sealing_calls}
use Rattle.calls.specs.Demand.{shown}
use Rattle.sending.specs.Stored.{sender_in}
use Rattle.sending.specs.Calls.{sealed_answer}

-- a call of sealing that returns 0: the bytes of its link, message and tape, its output and its second slice
pub record StoredSealing : Type 0 where
  pub link : List ℕ
  pub message : List ℕ
  pub tape : List ℕ
  pub out : List ℕ
  pub shares : List ℕ
  pub link-bytes : Bytes link
  pub message-bytes : Bytes message
  pub tape-bytes : Bytes tape
  pub accepted : Accepts (sealed_answer link message tape (length out) (length shares))

-- the 48 bytes that the call of the report writes for lane i of call k, round r, with the tape t
abbrev pub shown_with : StoredSealing → List ℕ → ℕ → ℕ → ℕ → List ℕ
shown_with S t = shown (sender_in S.link) S.message t

-- the calls of a sealing, the tapes with which the call of it returns 0, and what is shown of it
abbrev pub stored_reported : StoredSealing → Reported
stored_reported S = record {
  run = sealing_calls (sender_in S.link) S.message;
  accepts = λ w. Accepts (sealed_answer S.link S.message w (length S.out) (length S.shares));
  shown = shown_with S;
}
