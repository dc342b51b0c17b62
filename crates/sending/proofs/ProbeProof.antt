-- Probe-proof at the calls: the three statements on links in their bytes, with the tag's shares and the tape count out of the second slice.
-- Assumes nothing.
use Rattle.prelude.proofs.{◌≡◌, refl, sym, ap, ◌∙◌, List, ◌++◌, append_assoc, ℕ, ◌+◌, ◌*◌, ◌%◌, ◌≤◌, ◌<◌, min, arith, length, take, take_at}
use Rattle.prelude.proofs.{drop_at}
use Rattle.blocks.specs.Bytes.{big_endian, part, put, block_count}
use Rattle.blocks.proofs.{Numbers.big_endian-length, Parts.part-take, Parts.put-start}
use Rattle.answers.proofs.First.{if-done}
use Rattle.baksheesh.specs.Baksheesh.{rounds, rotated}
use Rattle.links.specs.declared.Sender.{Sender}
use Rattle.masking.specs.{Shares.flat, Shares.at, Call.encryption, Call.pair_count, OneTape.ExactlyOne, OneTape.round_on_lane}
use Rattle.masking.proofs.Encryption.{encryption-blocks, encryption-turns}
use Rattle.runs.specs.Reported.{SameLane, Joined, OwnKeys, OnLaneAlone, ShownByLanes}
use Rattle.runs.proofs.Reported.{ShowsLanes, shows-less, exactly-one}
use Rattle.calls.specs.{Numbered.ctr_first, Numbered.call_of, Numbered.call_count, Numbered.of_key, Numbered.key_at, Numbered.tape_need}
use Rattle.calls.specs.{Sealed.tag_shares, Entry.seal_shares, Plain.plain_state, Plain.plain_key, Plain.plain_output}
use Rattle.calls.specs.Demand.{joined_ke, joined_km, plain_text, sealing_call}
use Rattle.calls.proofs.Lanes.{can-seal, returned, accepted-with, tag-size}
use Rattle.calls.proofs.Lanes as Lanes
use Rattle.calls.proofs.ProbeProof as Value
use Rattle.sending.specs.{Stored.sender_in, Calls.count_size, Calls.shares_output}
use Rattle.sending.specs.Demand.{StoredSealing, shown_with, stored_reported}
use Rattle.sending.proofs.{Accepted.call-accepted, Accepted.accepted-call, Accepted.said, Right.is-done}

-- a call that returns 0 shows the lanes of its sealing
shows : (S : StoredSealing) → ShowsLanes encryption (stored_reported S)
shows S = shows-less (Lanes.shows (said S)) _ (λ w A. (accepted-call S.link S.message w (length S.out) (length S.shares) A).0)

-- two calls of sealing that return 0, with messages of one length; any lane of any round of any call: exactly one tape, differing from
-- the first's only in that round's 32 mask bytes and the lane's 16 key mask bytes, makes the report of the second show the same lane
pub stored-fits-every-key : (S T : StoredSealing) → length S.message ≡ length T.message
    → (k r i : ℕ) → 1 ≤ k → k ≤ call_count (block_count (length S.message)) → 1 ≤ r → r ≤ pair_count → i < 3
    → ExactlyOne (SameLane (stored_reported S) (stored_reported T) S.tape k r i)
stored-fits-every-key S T e k r i =
    exactly-one encryption-blocks encryption-turns (shows S) (shows T) S.tape-bytes S.accepted
    (λ w b d. call-accepted T.link T.message w (length T.out) (length T.shares)
    (accepted-with (said T) w (let long = (can-seal (said S)).long in omega arith))
    (accepted-call T.link T.message T.tape (length T.out) (length T.shares) T.accepted).1)
    k r i (ap (λ (l : ℕ). call_count (block_count l)) (sym e)) (ap (λ (l : ℕ). key_at (call_of ctr_first (block_count l) k)) (sym e)) refl

module _ (S : StoredSealing) where
  abbrev x : Sender
  x = sender_in S.link

  abbrev m : List ℕ
  m = S.message

  -- the three lanes of any round of any call join to the plain cipher's state and key; those of round 36 to its output
  pub stored-lanes-join : (k r : ℕ) → 1 ≤ k → k ≤ call_count (block_count (length m)) → 1 ≤ r → r ≤ pair_count → let c = sealing_call m k in
      Joined (shown_with S S.tape k r) (plain_state (joined_ke x) (joined_km x) x.number (x.last + 1) (plain_text x m) c r)
      (plain_key (joined_ke x) (joined_km x) c r)
  stored-lanes-join = Value.lanes-join (said S)

  -- and show the link's own three key shares, each with its mask
  pub stored-own-keys : (k r : ℕ) → 1 ≤ k → k ≤ call_count (block_count (length m)) → 1 ≤ r → r ≤ pair_count → let c = sealing_call m k in
      OwnKeys (shown_with S S.tape k r) (rotated (min r rounds)) (of_key x.ke x.km c) S.tape (of_key 0 32 c)
  stored-own-keys = Value.own_keys (said S)

  pub stored-output-lanes-join : (k : ℕ) → 1 ≤ k → k ≤ call_count (block_count (length m)) → let c = sealing_call m k in
      Joined (shown_with S S.tape k pair_count) (plain_output (joined_ke x) (joined_km x) x.number (x.last + 1) (plain_text x m) c)
      (rotated rounds (of_key (joined_ke x) (joined_km x) c))
  stored-output-lanes-join = Value.output-lanes-join (said S)

-- ---- the second slice

module _ (S : StoredSealing) where
  abbrev shares : List ℕ
  shares = flat (tag_shares (sender_in S.link) S.message (at S.tape))

  abbrev count : List ℕ
  count = big_endian count_size (tape_need (length S.message))

  written : shares_output S.link S.message S.tape S.out S.shares ≡ put 0 (shares ++ count) S.shares
  written = sym (if-done (is-done S) _ S.shares)

  size : length shares ≡ 48
  size = tag-size (said S)

  share : (i : ℕ) → i < 3 → part (16 * i) 16 (shares_output S.link S.message S.tape S.out S.shares)
      ≡ part (16 * i) 16 (seal_shares (sender_in S.link) S.message S.tape (length S.out))
  share i l =
      ap (part (16 * i) 16) (written ∙ put-start _ S.shares ∙ append_assoc shares count _)
      ∙ sym (part-take (16 * i) 16 48 (shares ++ _) (omega arith))
      ∙ ap (part (16 * i) 16) (take_at shares _ 48 size ∙ if-done (returned (said S)) shares _)

-- of the second slice's 52 bytes, each 16 are round 35 done on the report's 48 bytes of their lane of the last call, XORed with their mask
-- of that call's last pair; they are, two by two, the state shares of round 36's lanes; and the last four are the tape bytes read
pub stored-tag-shares : (S : StoredSealing) (i : ℕ) → i < 3
    → OnLaneAlone encryption round_on_lane (stored_reported S) S.tape (call_count (block_count (length S.message)))
    (shares_output S.link S.message S.tape S.out S.shares) i
stored-tag-shares S i l = share S i l ∙ Value.tag-shares (said S) i l

pub stored-tag-shares-shown : (S : StoredSealing) (i : ℕ) → i < 3
    → ShownByLanes (shown_with S S.tape (call_count (block_count (length S.message))) pair_count)
    (shares_output S.link S.message S.tape S.out S.shares) i
stored-tag-shares-shown S i l =
    let h = Value.tag-shares-shown (said S) i l in
    (h.0 ∙ sym (share S ((i + 1) % 3) (omega arith)), h.1 ∙ sym (share S ((i + 2) % 3) (omega arith)))

pub stored-count : (S : StoredSealing)
    → part 48 count_size (shares_output S.link S.message S.tape S.out S.shares)
    ≡ big_endian count_size (tape_need (length S.message))
stored-count S =
    ap (part 48 count_size) (written S ∙ put-start _ S.shares ∙ append_assoc (shares S) (count S) _)
    ∙ ap (take count_size) (drop_at (shares S) _ 48 (size S))
    ∙ take_at (count S) _ count_size (big_endian-length count_size (tape_need (length S.message)))
