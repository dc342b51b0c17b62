-- The lanes of a job's calls join to those of the plain cipher; the report of an accepted sealing shows the lanes of its calls.
-- Assumes nothing.
use Rattle.prelude.proofs.{◌≡◌, sym, ap, ap₂, ◌∙◌, List, [], ◌∷◌, ℕ, suc, ◌+◌, ◌-◌, ◌*◌, ◌≤◌, min, arith, length, replicate}
use Rattle.blocks.specs.Bytes.{Bytes, ◌⊕◌, put}
use Rattle.blocks.proofs.Parts.{put_whole}
use Rattle.baksheesh.specs.Baksheesh.{rounds, after, rotated}
use Rattle.answers.specs.Answer.{done}
use Rattle.answers.proofs.First.{if-done}
use Rattle.links.specs.{Record.record_size, Links.sender_form, declared.Sender.Sender}
use Rattle.masking.specs.Shares.{index_of, join, shares_in, flat, at, pair_size}
use Rattle.masking.specs.{Call.encryption, Call.pair_count}
use Rattle.masking.proofs.Encryption.{encryption-blocks, encryption-joins, plain-after}
use Rattle.masking.proofs.{Shape.Reads, Tape.at_reads}
use Rattle.runs.specs.{Run.lane_of, Lanes.lane_size, Reported.Joined}
use Rattle.runs.proofs.{Run.lane-length, Reported.ShowsLanes, Reported.joined, Reported.joined_as, Reported.output-size}
use Rattle.calls.specs.Numbered.{Call, call_at, tape_need}
use Rattle.calls.specs.{Job.Job, Job.call_in, Job.job_calls, Sealed.sealing, Sealed.sealing_calls, Sealed.tag_shares}
use Rattle.calls.specs.Entry.{seal_answer}
use Rattle.calls.specs.Demand.{Accepted, AcceptedSealing, shown, reported}
use Rattle.calls.specs.Plain.{plain_input, plain_state, plain_key}
use Rattle.calls.proofs.Accepted.{Sealable, accepted, accepted-values, sealable, room}
use Rattle.calls.proofs.Accepted as Accepted
use Rattle.calls.proofs.Shape.{JobBlocks, job-placed, job-blocks, sealing-blocks}
use Rattle.calls.proofs.Joins.{JobJoins, given-join, job-joins}

-- ---- any job whose calls' lanes are shown

pub job-lanes-join : {J : Job} → JobBlocks J → {text : List ℕ} → JobJoins J text
    → (accepts : List ℕ → Type 0) (shown : List ℕ → ℕ → ℕ → ℕ → List ℕ)
    → ShowsLanes encryption (record { run = job_calls J; accepts = accepts; shown = shown }) → {t : List ℕ} → Bytes t → accepts t
    → (k r : ℕ) → 1 ≤ k → k ≤ (job_calls J).count → 1 ≤ r → r ≤ pair_count
    → let c = call_in J k in let ke = join (shares_in J.ke) in let km = join (shares_in J.km) in
    Joined (shown t k r) (plain_state ke km J.number J.sequence text c r) (plain_key ke km c r)
unfolding plain_state plain_key
job-lanes-join {J} B {text} T accepts shown S b A k r k₁ kₙ r₁ rₙ =
    let c : Call = call_in J k in
    let input : List ℕ = plain_input (join (shares_in J.ke)) (join (shares_in J.km)) J.number J.sequence text c in
    let key = given-join B T c in
    let up : suc (r - 1) ≡ r = omega arith in
    joined_as (plain-after _ _ (r - 1) ∙ ap (λ (z : List ℕ). after (r - 1) z (input ⊕ z)) key)
    (ap₂ (λ (q : ℕ) (z : List ℕ). rotated (min q rounds) z) up key)
    (joined encryption-blocks S b A k k₁ kₙ r r₁ rₙ encryption-joins _ (job-joins B T))

-- ---- an accepted sealing

module _ (S : AcceptedSealing) where
  abbrev x : Sender
  x = S.link

  abbrev m : List ℕ
  m = S.message

  abbrev o : ℕ
  o = length S.out

  pub can-seal : Sealable x m S.tape
  can-seal = sealable x m S.tape o S.accepted

  pub returned : seal_answer x m S.tape o ≡ done (record_size (sender_form x) (length m) ∷ tape_need (length m) ∷ [])
  returned = accepted-values x m S.tape o S.accepted

  -- with another tape that is long enough it is accepted too
  pub accepted-with : (w : List ℕ) → tape_need (length m) ≤ length w → Accepted x m w o
  accepted-with w h =
      accepted x m w o (record { keyed = can-seal.keyed; left = can-seal.left; small = can-seal.small; long = h })
      (room x m S.tape o S.accepted)

  pub blocks : JobBlocks (sealing x m)
  blocks = sealing-blocks x m S.formed S.message-bytes

  -- its report shows the lanes of its calls
  pub shows : ShowsLanes encryption (reported S)
  shows = record {
    placed = job-placed (sealing x m);
    blocks = job-blocks (sealing x m) blocks;
    long = λ {t} A k k₁ kₙ. let long = (sealable x m t o A).long in omega arith;
    lanes = λ {t} b A k r i k₁ kₙ r₁ rₙ l.
        let s = sealable x m t o A in
        let seen : List ℕ = lane_of encryption (sealing_calls x m) (at t) k r (index_of i) in
        let out : List ℕ = replicate lane_size 0 in
        let masks : Reads (at t) (call_at k + pair_size * (r - 1) + pair_size) = at_reads t _ b (let long = s.long in omega arith) in
        sym (if-done (Accepted.reported x m t k r i lane_size s k₁ kₙ r₁ rₙ l (omega arith)) (put 0 seen out) out)
        ∙ put_whole seen out
        (lane-length (job-placed (sealing x m)) encryption-blocks (job-blocks (sealing x m) blocks) (at t) k r k₁ masks (index_of i));
  }

  -- the tag's shares have 48 bytes
  pub tag-size : length (flat (tag_shares x m (at S.tape))) ≡ 48
  tag-size = output-size encryption-blocks shows S.tape-bytes S.accepted _ (omega arith) (omega arith)
