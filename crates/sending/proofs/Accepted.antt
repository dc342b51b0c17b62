-- An accepted call of sealing is an accepted sealing on the link that its bytes say. Assumes nothing.
use Rattle.prelude.proofs.{List, [], ℕ, ◌≤◌, arith, length, ltb-false, le-ltb}
use Rattle.answers.specs.Answer.{Accepts}
use Rattle.answers.proofs.First.{accepts-none, none-accepts, none-append, none-parts}
use Rattle.links.specs.declared.Sender.{Sender}
use Rattle.calls.specs.{Entry.seal_causes, Entry.seal_answer, Demand.Accepted, Demand.AcceptedSealing}
use Rattle.sending.specs.Calls.{shares_size, slice_causes, sealed_causes, sealed_answer}
use Rattle.sending.specs.{Stored.sender_in, Demand.StoredSealing}
use Rattle.sending.proofs.Stored.{sender-formed}

-- ---- sealing is accepted exactly where it is on the link that the bytes say, with room for shares and count

module _ (link m t : List ℕ) (o s : ℕ) where
  abbrev x : Sender
  x = sender_in link

  pub call-accepted : Accepted x m t o → shares_size ≤ s → Accepts (sealed_answer link m t o s)
  unfolding sealed_answer seal_answer
  call-accepted A h =
      none-accepts (sealed_causes link m t o s) []
      (none-append (seal_causes x m t o) (slice_causes s) (accepts-none (seal_causes x m t o) _ tt A) (le-ltb s _ (omega (arith, h)), tt))

  pub accepted-call : Accepts (sealed_answer link m t o s) → Accepted x m t o × (shares_size ≤ s)
  unfolding sealed_answer seal_answer
  accepted-call A =
      let n = none-parts (seal_causes x m t o) (slice_causes s) (accepts-none (sealed_causes link m t o s) [] tt A) in
      (none-accepts (seal_causes x m t o) _ n.0, ltb-false s shares_size n.1.0)

-- the sealing on the link that the bytes say
abbrev pub said : StoredSealing → AcceptedSealing
said S = record {
  link = sender_in S.link;
  message = S.message;
  tape = S.tape;
  out = S.out;
  formed = sender-formed S.link S.link-bytes;
  message-bytes = S.message-bytes;
  tape-bytes = S.tape-bytes;
  accepted = (accepted-call S.link S.message S.tape (length S.out) (length S.shares) S.accepted).0;
}
