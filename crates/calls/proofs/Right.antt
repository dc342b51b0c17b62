-- Shared and plain sealing agree: the record, the answer, the output, which past the record is as it was; numbers rise by one; the rest of
-- a longer tape is unread. Assumes nothing.
use Rattle.prelude.proofs.{◌≡◌, sym, ap, ap₂, ◌∙◌, List, [], ◌∷◌, ◌++◌, ℕ, ◌+◌, ◌≤◌, arith, length, take, replicate, length-append}
use Rattle.prelude.proofs.{length-take, take_at, drop_at, take_all}
use Rattle.blocks.specs.Bytes.{Block, ◌⊕◌, part, put}
use Rattle.blocks.proofs.Parts.{part-part}
use Rattle.answers.specs.Answer.{done, Kept}
use Rattle.answers.proofs.{First.if-done, Output.output-kept}
use Rattle.baksheesh.specs.Baksheesh.{encrypt}
use Rattle.baksheesh.proofs.Inverse.{encrypt-block}
use Rattle.modes.proofs.Ctr.{ctr-same}
use Rattle.links.specs.Record.{record_size, record_of, sequence_in}
use Rattle.links.specs.{Links.sender_of, Links.sender_form, declared.Sender.Sender, declared.Width.Width}
use Rattle.links.proofs.Widths.{proper}
use Rattle.plain.specs.{Plain.plain_record, Entry.plain_answer, Entry.plain_output}
use Rattle.plain.proofs.Sealed.{plain-length, plain-sequence}
use Rattle.masking.specs.Shares.{index_of, Shares, join, shares_in, flat, at}
use Rattle.masking.proofs.{Shape.join-block, Causal.Agree, Tape.at_reads, Tape.take-agree}
use Rattle.calls.specs.Entry.{advanced, seal_answer, seal_link, seal_output}
use Rattle.calls.specs.Demand.{Accepted, AcceptedSealing, joined_ke, joined_km, SameSealing}
use Rattle.calls.specs.{Numbered.tape_need, Job.crypt, Sealed.sealing, Sealed.tag_shares, Sealed.sealed_record}
use Rattle.runs.specs.Lanes.{lane_size}
use Rattle.runs.proofs.Run.{output-agree, lane-agrees}
use Rattle.calls.proofs.Shape.{job-placed}
use Rattle.calls.proofs.Accepted.{accepted-values, sealable, room, reported, plain_done}
use Rattle.calls.proofs.Lanes.{can-seal, returned, accepted-with, blocks}
use Rattle.calls.proofs.Joins.{record-join}

-- ---- shared and plain sealing

-- the joined keys are blocks
ke-block : (S : AcceptedSealing) → Block (joined_ke S.link)
ke-block S = join-block (blocks S).ke

km-block : (S : AcceptedSealing) → Block (joined_km S.link)
km-block S = join-block (blocks S).km

-- the record is the one of plain sealing under the joined keys, with the link's number and its next sequence number
pub same-record : (S : AcceptedSealing) → let x = S.link in
    sealed_record x S.message (at S.tape)
    ≡ plain_record (sender_form x) (encrypt (joined_ke x)) (encrypt (joined_km x)) x.number (x.last + 1) S.message
same-record S =
    record-join S.link S.message S.formed S.message-bytes (at S.tape) (at_reads S.tape _ S.tape-bytes (can-seal S).long)

-- plain sealing with these is then accepted too, and leaves the same output
pub same_answer : (S : AcceptedSealing) → let x = S.link in
    plain_answer (sender_form x) (joined_ke x ++ joined_km x) (x.last + 1) S.message (length S.out)
    ≡ done (record_size (sender_form x) (length S.message) ∷ [])
same_answer S =
    let x = S.link in
    plain_done x S.message S.tape (length S.out) S.accepted (joined_ke x ++ joined_km x) (x.last + 1)
    (simp length-append (omega (arith, (ke-block S).size, (km-block S).size))) (omega arith)
    (let left = (can-seal S).left in omega arith)

pub same-output : (S : AcceptedSealing) → let x = S.link in
    seal_output x S.message S.tape S.out
    ≡ plain_output (sender_form x) encrypt (joined_ke x ++ joined_km x) x.number (x.last + 1) S.message S.out
same-output S =
    let x = S.link in
    let m : List ℕ = S.message in
    let o : List ℕ = S.out in
    let ke : part 0 16 (joined_ke x ++ joined_km x) ≡ joined_ke x = take_at (joined_ke x) (joined_km x) 16 (ke-block S).size in
    let km : part 16 16 (joined_ke x ++ joined_km x) ≡ joined_km x =
    ap (take 16) (drop_at (joined_ke x) (joined_km x) 16 (ke-block S).size)
    ∙ take_all 16 (joined_km x) (omega (arith, (km-block S).size)) in
    sym (if-done (returned S) _ o)
    ∙ ap (λ (r : List ℕ). put 0 r o)
    (same-record S
    ∙ ap₂ (λ (e k : List ℕ). plain_record (sender_form x) (encrypt e) (encrypt k) x.number (x.last + 1) m) (sym ke) (sym km))
    ∙ if-done (same_answer S) _ _

-- past the record the output is as it was
pub sealed-length : (S : AcceptedSealing) → let x = S.link in
    length (sealed_record x S.message (at S.tape)) ≡ record_size (sender_form x) (length S.message)
sealed-length S =
    let x = S.link in
    ap length (same-record S)
    ∙ plain-length (sender_form x) (proper x.width) _ _ (λ k. encrypt-block _ k (ke-block S))
    (λ k. encrypt-block _ k (km-block S)) x.number (x.last + 1) S.message S.message-bytes

pub sealed-kept : (S : AcceptedSealing) → let x = S.link in
    Kept (record_size (sender_form x) (length S.message)) S.out (seal_output x S.message S.tape S.out)
sealed-kept S =
    output-kept (returned S) _ S.out _ (sealed-length S) (room S.link S.message S.tape (length S.out) S.accepted)

-- the record carries the number after the link's last, and the link that comes back has that for its last
pub next-number : (S : AcceptedSealing) → let x = S.link in
    (sequence_in (sender_form x) (sealed_record x S.message (at S.tape)) ≡ x.last + 1)
    × (seal_link x S.message S.tape (length S.out) ≡ advanced x)
next-number S =
    let x = S.link in
    let m : List ℕ = S.message in
    let o : ℕ = length S.out in (
      ap (λ (r : List ℕ). sequence_in (sender_form x) r) (same-record S)
          ∙ plain-sequence (sender_form x) (proper x.width) _ _
          (λ k. encrypt-block _ k (ke-block S)) (λ k. encrypt-block _ k (km-block S))
          x.number (x.last + 1) m S.message-bytes (let left = (sealable x m S.tape o S.accepted).left in omega arith),
      sym (if-done (accepted-values x m S.tape o S.accepted) (advanced x) x),
    )

-- a link keyed with 96 bytes has three shares of KE, then of KM, one behind the other
pub keyed-keys : (n : ℕ) (w : Width) (keys : List ℕ) → let x = sender_of n w keys in
    (joined_ke x ≡ part 0 16 keys ⊕ (part 16 16 keys ⊕ part 32 16 keys))
    × (joined_km x ≡ part 48 16 keys ⊕ (part 64 16 keys ⊕ part 80 16 keys))
unfolding join
keyed-keys n w keys = (shares 0 16 32 (omega arith) (omega arith), shares 48 64 80 (omega arith) (omega arith))
  where
    shares : (p q r : ℕ) → q ≡ p + 16 → r ≡ p + 32 → join (shares_in (part p 48 keys)) ≡ part p 16 keys ⊕ (part q 16 keys ⊕ part r 16 keys)
    shares p q r eq er =
        let e : p ≡ p + 0 = omega arith in
        λ i.
        part-part p 48 0 16 p keys (omega arith) e i
        ⊕ (part-part p 48 16 16 q keys (omega arith) eq i ⊕ part-part p 48 32 16 r keys (omega arith) er i)

-- ---- the tape

-- with any tape that has the same bytes up to the need, sealing and the report do the same
pub rest-unread : (S : AcceptedSealing) (u : List ℕ) → let n = tape_need (length S.message) in take n u ≡ take n S.tape
    → SameSealing S.link S.message S.out S.tape u
unfolding sealed_record crypt
rest-unread S u e = record {
  answer = v ∙ sym (returned S);
  link = sym (if-done v (advanced x) x) ∙ if-done (returned S) (advanced x) x;
  tag-shares = sym (if-done v _ (replicate 48 0)) ∙ ap flat tag-agrees ∙ if-done (returned S) _ (replicate 48 0);
  output = sym (if-done v _ S.out) ∙ ap (λ (r : List ℕ). put 0 r S.out) record-agrees ∙ if-done (returned S) _ S.out;
  lanes = λ k r i k₁ kₙ r₁ rₙ l.
      sym (if-done (reported x m u k r i lane_size (sealable x m u o A) k₁ kₙ r₁ rₙ l (omega arith)) _ (replicate lane_size 0))
      ∙ ap (λ (s : List ℕ). put 0 s (replicate lane_size 0))
      (lane-agrees (job-placed (sealing x m)) (at u) (at t) k r k₁ (λ p h. agree p (omega arith)) (index_of i))
      ∙ if-done (reported x m t k r i lane_size (can-seal S) k₁ kₙ r₁ rₙ l (omega arith)) _ (replicate lane_size 0);
}
  where
    x : Sender
    x = S.link

    m : List ℕ
    m = S.message

    t : List ℕ
    t = S.tape

    o : ℕ
    o = length S.out

    agree : Agree (at u) (at t) (tape_need (length m))
    agree = take-agree u t (tape_need (length m)) e

    tag-agrees : tag_shares x m (at u) ≡ tag_shares x m (at t)
    tag-agrees = output-agree (job-placed (sealing x m)) (at u) (at t) _ (omega arith) (λ p h. agree p (omega arith))

    record-agrees : sealed_record x m (at u) ≡ sealed_record x m (at t)
    record-agrees =
        ap₂ (λ (c : List ℕ) (s : Shares). record_of (sender_form x) x.number (x.last + 1) c (take (sender_form x).tag (join s)))
        (ctr-same (λ b. b) (λ b. b) _ _ m
        (λ j l. ap join (output-agree (job-placed (sealing x m)) (at u) (at t) _ (omega arith) (λ p h. agree p (omega arith)))))
        tag-agrees

    long : tape_need (length m) ≤ length u
    long = omega (arith, (can-seal S).long, length-take (tape_need (length m)) u, length-take (tape_need (length m)) t, ap length e)

    A : Accepted x m u o
    A = accepted-with S u long

    v : seal_answer x m u o ≡ done (record_size (sender_form x) (length m) ∷ tape_need (length m) ∷ [])
    v = accepted-values x m u o A
