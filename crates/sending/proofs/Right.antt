-- A call of sealing writes plain sealing's record, leaves its two slices as they were past what it writes, and keeps the advanced link.
-- Assumes nothing.
use Rattle.prelude.proofs.{◌≡◌, sym, ap, ◌∙◌, [], ◌++◌, ℕ, ◌+◌, length, length-append}
use Rattle.blocks.proofs.Numbers.{big_endian-length}
use Rattle.answers.specs.Answer.{done, Kept}
use Rattle.answers.proofs.{First.accepts-done, First.if-done, Output.output-kept}
use Rattle.baksheesh.specs.Baksheesh.{encrypt}
use Rattle.links.specs.{Record.record_size, Record.told, Record.form_of, Links.sender_form, declared.Width.Width}
use Rattle.plain.specs.Entry.{plain_output}
use Rattle.calls.specs.{Entry.advanced, Demand.joined_ke, Demand.joined_km}
use Rattle.calls.proofs.{Accepted.room, Lanes.returned, Lanes.tag-size, Right.sealed-length, Right.same-output, Total.advanced-formed}
use Rattle.sending.specs.Calls.{sealed_causes, sealed_answer, sealed_link, record_output, shares_output}
use Rattle.sending.specs.{Stored.sender_in, Demand.StoredSealing}
use Rattle.sending.proofs.{Stored.sender-said, Accepted.accepted-call, Accepted.said}

module _ (S : StoredSealing) where
  pub is-done : sealed_answer S.link S.message S.tape (length S.out) (length S.shares) ≡ done []
  unfolding sealed_answer
  is-done = accepts-done (sealed_causes S.link S.message S.tape (length S.out) (length S.shares)) [] tt S.accepted

  -- the output is plain sealing's, told the link's width, for the joined keys, the link's number and its next sequence number
  pub stored-record : (wide : ℕ) → let x = sender_in S.link in told wide ≡ x.width
      → record_output S.link S.message S.tape S.out S.shares
      ≡ plain_output (form_of (told wide)) encrypt (joined_ke x ++ joined_km x) x.number (x.last + 1) S.message S.out
  stored-record wide e =
      let x = sender_in S.link in
      sym (if-done is-done _ S.out) ∙ if-done (returned (said S)) _ S.out ∙ same-output (said S)
      ∙ ap (λ (w : Width). plain_output (form_of w) encrypt (joined_ke x ++ joined_km x) x.number (x.last + 1) S.message S.out)
      (sym e)

  -- past the record, and past the 52 bytes of shares and count, the slices are as they were
  pub stored-kept : let x = sender_in S.link in
      Kept (record_size (sender_form x) (length S.message)) S.out (record_output S.link S.message S.tape S.out S.shares)
      × Kept 52 S.shares (shares_output S.link S.message S.tape S.out S.shares)
  stored-kept =
      let A = accepted-call S.link S.message S.tape (length S.out) (length S.shares) S.accepted in (
        output-kept is-done _ S.out _ (sealed-length (said S)) (room _ S.message S.tape _ A.0),
        output-kept is-done _ S.shares 52 (rw (length-append, tag-size (said S), big_endian-length)) A.1,
      )

  -- the link's bytes say the advanced link
  pub stored-advanced : let x = sender_in S.link in
      sender_in (sealed_link S.link S.message S.tape (length S.out) (length S.shares)) ≡ advanced x
  stored-advanced =
      let x = sender_in S.link in
      let F = advanced-formed x S.message S.tape (length S.out) (said S).formed (said S).accepted in
      ap sender_in (sym (if-done is-done _ S.link)) ∙ sender-said (advanced x) F.number F.last F.ke-size F.km-size
