-- What shared sealing and the lane report answer, the link and the shares that come back, and the outputs at their end.
-- Assumes nothing.
use Rattle.std.specs.Prelude.{not, List, [], ◌∷◌, ℕ, ◌+◌, eqb, ltb, length, replicate}
use Rattle.answers.specs.Answer.{Answer, done, Cause, ◌when◌, first, if_done, output}
use Rattle.blocks.specs.Bytes.{block_count}
use Rattle.links.specs.Record.{greatest, usable, longest, record_size}
use Rattle.links.specs.Links.{sender_form}
use Rattle.links.specs.declared.Sender.{Sender}
use Rattle.masking.specs.Shares.{index_of, flat, at}
use Rattle.masking.specs.Call.{encryption, pair_count}
use Rattle.runs.specs.Run.{lane_of}
use Rattle.runs.specs.Lanes.{lane_causes}
use Rattle.calls.specs.Numbered.{call_count, tape_need}
use Rattle.calls.specs.Sealed.{sealing_calls, tag_shares, sealed_record}

-- ---- sealing the message m on the link x with the tape t, with room for o bytes

-- the causes that sealing and the report share
abbrev pub input_causes : Sender → List ℕ → List ℕ → List Cause → List Cause
input_causes x m t cs =
    (20 when not (usable (sender_form x) x.keyed x.last))
    ∷ (21 when eqb x.last (greatest (sender_form x)))
    ∷ (2 when ltb longest (length m))
    ∷ (3 when ltb (length t) (tape_need (length m)))
    ∷ cs

-- that of sealing alone: the room for the record
abbrev pub room_causes : Sender → List ℕ → ℕ → List Cause
room_causes x m o = (4 when ltb o (record_size (sender_form x) (length m))) ∷ []

abbrev pub seal_causes : Sender → List ℕ → List ℕ → ℕ → List Cause
seal_causes x m t o = input_causes x m t (room_causes x m o)

-- the length of the record, and the tape bytes read
unfoldable pub seal_answer : Sender → List ℕ → List ℕ → ℕ → Answer
seal_answer x m t o = first (seal_causes x m t o) (done (record_size (sender_form x) (length m) ∷ tape_need (length m) ∷ []))

-- the link with its next number used
abbrev pub advanced : Sender → Sender
advanced x = record { keyed = x.keyed; number = x.number; last = x.last + 1; width = x.width; ke = x.ke; km = x.km }

abbrev pub seal_link : Sender → List ℕ → List ℕ → ℕ → Sender
seal_link x m t o = if_done (seal_answer x m t o) (advanced x) x

abbrev pub seal_shares : Sender → List ℕ → List ℕ → ℕ → List ℕ
seal_shares x m t o = if_done (seal_answer x m t o) (flat (tag_shares x m (at t))) (replicate 48 0)

abbrev pub seal_output : Sender → List ℕ → List ℕ → List ℕ → List ℕ
seal_output x m t o = output (seal_answer x m t (length o)) (sealed_record x m (at t)) o

-- ---- the report of lane i of call k, round r, of the sealing that the link would do next

abbrev pub report_causes : Sender → List ℕ → List ℕ → ℕ → ℕ → ℕ → ℕ → List Cause
report_causes x m t k r i o = input_causes x m t (lane_causes (call_count (block_count (length m))) pair_count k r i o)

unfoldable pub report_answer : Sender → List ℕ → List ℕ → ℕ → ℕ → ℕ → ℕ → Answer
report_answer x m t k r i o = first (report_causes x m t k r i o) (done [])

abbrev pub report_output : Sender → List ℕ → List ℕ → ℕ → ℕ → ℕ → List ℕ → List ℕ
report_output x m t k r i o =
    output (report_answer x m t k r i (length o)) (lane_of encryption (sealing_calls x m) (at t) k r (index_of i)) o
