-- Probe-proof: any lane of any round of any call fits every key alike; lanes join to the plain cipher's state and key; each tag
-- share is round 35 done on its lane alone, masked. Round 36 stands for the output. Assumes nothing.
use Rattle.prelude.proofs.{◌≡◌, refl, sym, ap, ◌∙◌, subst, List, ℕ, suc, ◌+◌, ◌-◌, ◌≤◌, ◌<◌, min, arith, length, take}
use Rattle.blocks.specs.Bytes.{part, put, block_count}
use Rattle.baksheesh.specs.Baksheesh.{rounds, rotated, encrypt}
use Rattle.answers.specs.Answer.{number_of, Accepts, Kept}
use Rattle.answers.proofs.{First.if-done, Output.output-kept}
use Rattle.links.specs.declared.Sender.{Sender}
use Rattle.masking.specs.Shares.{next, index_of, flat, at}
use Rattle.masking.specs.{Stages.state, Stages.lane, Call.encryption, Call.pair_count, OneTape.ExactlyOne, OneTape.round_on_lane}
use Rattle.masking.proofs.{Causal.Agree, Causal.state-agree, Tape.take-agree}
use Rattle.masking.proofs.Encryption.{encryption-blocks, encryption-turns, encryption-lanes}
use Rattle.runs.specs.Run.{key_shares, input_of, output_of, lane_of}
use Rattle.runs.specs.{Lanes.lane_size, Reported.SameLane, Reported.Joined, Reported.OwnKeys, Reported.FollowsLane, Reported.OnLaneAlone}
use Rattle.runs.specs.Reported.{pair_at, ShownByLanes}
use Rattle.runs.proofs.Run.{key-agree, input-agree}
use Rattle.runs.proofs.Reported.{owned, followed, output-shown, on-lane-alone, shown-by-lanes, exactly-one}
use Rattle.calls.specs.Numbered.{call_of, call_count, call_at, key_at, of_key}
use Rattle.calls.specs.{Numbered.ctr_first, Sealed.sealing, Sealed.sealing_calls, Entry.seal_shares, Entry.report_answer, Entry.report_output}
use Rattle.calls.specs.Demand.{AcceptedSealing, joined_ke, joined_km, plain_text, sealing_call, shown, reported}
use Rattle.calls.specs.Plain.{plain_state, plain_key, plain_output}
use Rattle.calls.proofs.Lanes.{job-lanes-join, can-seal, returned, accepted-with, blocks, shows}
use Rattle.calls.proofs.{Shape.job-placed, Joins.sealing-joins, Accepted.reported as report-done}

-- two accepted sealings of equal message length, whatever their links, keys, texts and tapes; any lane of any round of any call:
-- exactly one tape, differing from the first's only in that round's 32 mask bytes and the lane's 16 key mask bytes, makes the second
-- show the same lane
pub fits-every-key : (S T : AcceptedSealing) → length S.message ≡ length T.message
    → (k r i : ℕ) → 1 ≤ k → k ≤ call_count (block_count (length S.message)) → 1 ≤ r → r ≤ pair_count → i < 3
    → ExactlyOne (SameLane (reported S) (reported T) S.tape k r i)
fits-every-key S T e k r i =
    exactly-one encryption-blocks encryption-turns (shows S) (shows T) S.tape-bytes S.accepted
    (λ w b d. accepted-with T w (let long = (can-seal S).long in omega arith))
    k r i (ap (λ (l : ℕ). call_count (block_count l)) (sym e)) (ap (λ (l : ℕ). key_at (call_of ctr_first (block_count l) k)) (sym e)) refl

module _ (S : AcceptedSealing) where
  abbrev x : Sender
  x = S.link

  abbrev m : List ℕ
  m = S.message

  abbrev t : List ℕ
  t = S.tape

  abbrev calls : ℕ
  calls = call_count (block_count (length m))

  -- the three lanes of any round of any call of an accepted sealing: a state share stands in two of them with the same bytes; the three
  -- distinct state shares XOR to the state that the plain cipher, on that call's joined input and key, has on entering the round, and the
  -- key shares to the key that it adds at the round's end
  pub lanes-join : (k r : ℕ) → 1 ≤ k → k ≤ calls → 1 ≤ r → r ≤ pair_count → let c = sealing_call m k in
      Joined (shown x m t k r) (plain_state (joined_ke x) (joined_km x) x.number (x.last + 1) (plain_text x m) c r)
      (plain_key (joined_ke x) (joined_km x) c r)
  lanes-join = job-lanes-join (blocks S) (sealing-joins x m S.formed S.message-bytes) _ _ (shows S) S.tape-bytes S.accepted

  -- those key shares are the link's own three of the call's key, KE or KM, in their order, each XORed with its mask on the tape, c, d and
  -- c XOR d, and rotated as often as the round has it
  pub own_keys : (k r : ℕ) → 1 ≤ k → k ≤ calls → 1 ≤ r → r ≤ pair_count → let c = sealing_call m k in
      OwnKeys (shown x m t k r) (rotated (min r rounds)) (of_key x.ke x.km c) t (of_key 0 32 c)
  own_keys k r k₁ kₙ r₁ rₙ =
      let c = sealing_call m k in
      let up : suc (r - 1) ≡ r = omega arith in
      subst (λ (q : ℕ). OwnKeys (shown x m t k r) (rotated (min q rounds)) (of_key x.ke x.km c) t (of_key 0 32 c)) up
      (owned encryption-blocks (shows S) S.tape-bytes S.accepted k k₁ kₙ r r₁ rₙ (of_key x.ke x.km c) refl)

  -- of the output, which round 36 shows: the state shares XOR to the block that the plain cipher makes, and the key shares to the key of
  -- round 35
  pub output-lanes-join : (k : ℕ) → 1 ≤ k → k ≤ calls → let c = sealing_call m k in
      Joined (shown x m t k pair_count) (plain_output (joined_ke x) (joined_km x) x.number (x.last + 1) (plain_text x m) c)
      (rotated rounds (of_key (joined_ke x) (joined_km x) c))
  unfolding plain_state plain_key encrypt
  output-lanes-join k k₁ kₙ = lanes-join k pair_count k₁ kₙ (omega arith) (omega arith)

  -- ---- the tag's shares

  -- they are the output of the last call, 2n + 2
  tag : seal_shares x m t (length S.out) ≡ flat (output_of encryption (sealing_calls x m) (at t) calls)
  tag =
      let n : ℕ = block_count (length m) in
      let e : n + (2 + n) ≡ call_count n = omega arith in
      sym (if-done (returned S) _ _) ∙ ap (λ (k : ℕ). flat (output_of encryption (sealing_calls x m) (at t) k)) e

  -- share i of the tag is the S-box, bit move, constants (share 0) and key share i of round 35, done on the 48 bytes of lane i of the last
  -- call, 2n + 2, and on nothing else, XORed with its mask of that call's last pair: u, v or u XOR v
  pub tag-shares : (i : ℕ) → i < 3 → OnLaneAlone encryption round_on_lane (reported S) t calls (seal_shares x m t (length S.out)) i
  tag-shares =
      on-lane-alone encryption-blocks (shows S) S.tape-bytes S.accepted calls (omega arith) (omega arith) tag encryption-lanes
      (omega arith)

  -- and two by two the tag's shares are the state shares of round 36's lanes
  pub tag-shares-shown : (i : ℕ) → i < 3 → ShownByLanes (shown x m t calls pair_count) (seal_shares x m t (length S.out)) i
  tag-shares-shown =
      shown-by-lanes encryption-blocks (shows S) S.tape-bytes S.accepted calls (omega arith) (omega arith) tag

  -- ---- what the three speak of

  module _ (k r i : ℕ) (k₁ : 1 ≤ k) (kₙ : k ≤ calls) (r₁ : 1 ≤ r) (rₙ : r ≤ pair_count) (l : i < 3) where
    -- what is shown is a lane of the numbered call, on the key shares and the input of which the call makes its output
    pub lanes-used : let R = sealing_calls x m in
        shown x m t k r i ≡ lane encryption (key_shares encryption R (at t) k) (input_of encryption R (at t) k) (at t) (call_at k) (r - 1) (index_of i)
    unfolding lane_of
    lanes-used = (shows S).lanes S.tape-bytes S.accepted k r i k₁ kₙ r₁ rₙ l

    -- the report of such a lane is accepted with every output of at least 48 bytes, and writes the lane, whatever the output held
    pub report-lane : (o : List ℕ) → lane_size ≤ length o
        → Accepts (report_answer x m t k r i (length o)) × (report_output x m t k r i o ≡ put 0 (shown x m t k r i) o)
    unfolding lane_of
    report-lane o h =
        let answer = report-done x m t k r i (length o) (can-seal S) k₁ kₙ r₁ rₙ l h in
        (ap number_of answer, sym (if-done answer _ o) ∙ ap (λ (s : List ℕ). put 0 s o) (sym lanes-used))

    -- past those 48 bytes the output is as it was
    pub report-kept : (o : List ℕ) → lane_size ≤ length o → Kept lane_size o (report_output x m t k r i o)
    unfolding lane_of
    report-kept o h =
        output-kept (report-done x m t k r i (length o) (can-seal S) k₁ kₙ r₁ rₙ l h) _ o lane_size
        (ap length (sym lanes-used) ∙ (lanes-join k r k₁ kₙ r₁ rₙ).sized i l) h

  -- the lanes of round 36 of any call show the output that later calls, and the record, are made of
  pub outputs-shown : (k i : ℕ) → 1 ≤ k → k ≤ calls → i < 3
      → let out = output_of encryption (sealing_calls x m) (at t) k in let s = shown x m t k pair_count i in
      (part 0 16 s ≡ out (next (index_of i))) × (part 16 16 s ≡ out (next (next (index_of i))))
  outputs-shown k i k₁ kₙ l = output-shown encryption-blocks (shows S) S.tape-bytes S.accepted k k₁ kₙ i l

  -- what a round makes of a share needs its lane alone: with the next pair's mask it is the share that the next round's lanes show, or the
  -- output's
  pub lanes-follow : (k r i : ℕ) → 1 ≤ k → k ≤ calls → 1 ≤ r → r < pair_count → i < 3
      → FollowsLane encryption round_on_lane (reported S) t k r i
  lanes-follow k r i k₁ kₙ =
      followed encryption-blocks (shows S) S.tape-bytes S.accepted k k₁ kₙ encryption-lanes r i

-- on entering round r of call k, before its masks, all hangs on the tape before them
pub causal : (x : Sender) (m t u : List ℕ) (k r : ℕ) → 1 ≤ k → let R = sealing_calls x m in take (pair_at R k r) t ≡ take (pair_at R k r) u
    → state encryption (key_shares encryption R (at t) k) (input_of encryption R (at t) k) (at t) (call_at k) (r - 1)
    ≡ state encryption (key_shares encryption R (at u) k) (input_of encryption R (at u) k) (at u) (call_at k) (r - 1)
causal x m t u k r k₁ e =
    let agree : Agree (at t) (at u) (pair_at (sealing_calls x m) k r) = take-agree t u _ e in
    let placed = job-placed (sealing x m) in
    state-agree encryption (at t) (at u) (call_at k) (key-agree placed (at t) (at u) k _ (omega arith) agree)
    (input-agree placed (at t) (at u) k k₁ (λ p h. agree p (omega arith))) (r - 1) agree
