-- The words of the statements on sealing: what is accepted, what a probed lane shows, and the plain cipher's calls that lanes join to.
-- Assumes nothing.
use Rattle.std.specs.Prelude.{◌≡◌, List, ℕ, ◌+◌, ◌^◌, ◌≤◌, ◌<◌, length, replicate}
use Rattle.blocks.specs.Bytes.{Bytes, block_count}
use Rattle.baksheesh.specs.Baksheesh.{encrypt}
use Rattle.answers.specs.Answer.{Accepts}
use Rattle.links.specs.Record.{number_size, sequence_most}
use Rattle.links.specs.declared.Sender.{Sender}
use Rattle.plain.specs.Plain.{crypted}
use Rattle.masking.specs.Shares.{join, shares_in}
use Rattle.masking.specs.Call.{pair_count}
use Rattle.runs.specs.Lanes.{lane_size}
use Rattle.runs.specs.Reported.{Reported}
use Rattle.calls.specs.Numbered.{Call, ctr_first, call_of, call_count}
use Rattle.calls.specs.Sealed.{sealing_calls}
use Rattle.calls.specs.Entry.{seal_answer, seal_link, seal_shares, seal_output, report_output}

-- what the fields of a sending link can hold
pub record Formed (x : Sender) : Type 0 where
  pub number : x.number < 256 ^ number_size
  pub last : x.last < 256 ^ sequence_most
  pub ke-size : length x.ke ≡ 48
  pub ke-bytes : Bytes x.ke
  pub km-size : length x.km ≡ 48
  pub km-bytes : Bytes x.km

-- sealing the message m on the link x with the tape t and room for o bytes is accepted, whatever values are returned
abbrev pub Accepted : Sender → List ℕ → List ℕ → ℕ → Type 0
Accepted x m t o = Accepts (seal_answer x m t o)

-- an accepted sealing: its link, message, tape and output, all holding what they can
pub record AcceptedSealing : Type 0 where
  pub link : Sender
  pub message : List ℕ
  pub tape : List ℕ
  pub out : List ℕ
  pub formed : Formed link
  pub message-bytes : Bytes message
  pub tape-bytes : Bytes tape
  pub accepted : Accepted link message tape (length out)

-- the keys that the link's shares join to: KE, then KM
abbrev pub joined_ke : Sender → List ℕ
joined_ke x = join (shares_in x.ke)

abbrev pub joined_km : Sender → List ℕ
joined_km x = join (shares_in x.km)

-- the ciphertext of the message m under them
abbrev pub plain_text : Sender → List ℕ → List ℕ
plain_text x m = crypted (encrypt (joined_ke x)) x.number (x.last + 1) m

-- the call numbered k of sealing the message m
abbrev pub sealing_call : List ℕ → ℕ → Call
sealing_call m k = call_of ctr_first (block_count (length m)) k

-- the 48 bytes that the report of lane i of call k, round r writes
abbrev pub shown : Sender → List ℕ → List ℕ → ℕ → ℕ → ℕ → List ℕ
shown x m t k r i = report_output x m t k r i (replicate lane_size 0)

-- the calls of a sealing, the tapes with which it is accepted, and what is shown of it
abbrev pub reported : AcceptedSealing → Reported
reported S = record {
  run = sealing_calls S.link S.message;
  accepts = λ w. Accepted S.link S.message w (length S.out);
  shown = shown S.link S.message;
}

-- sealing m on x with the output o does the same with the tape u as with the tape t
pub record SameSealing (x : Sender) (m o t u : List ℕ) : Type 0 where
  pub answer : seal_answer x m u (length o) ≡ seal_answer x m t (length o)
  pub link : seal_link x m u (length o) ≡ seal_link x m t (length o)
  pub tag-shares : seal_shares x m u (length o) ≡ seal_shares x m t (length o)
  pub output : seal_output x m u o ≡ seal_output x m t o
  pub lanes : (k r i : ℕ) → 1 ≤ k → k ≤ call_count (block_count (length m)) → 1 ≤ r → r ≤ pair_count → i < 3
      → shown x m u k r i ≡ shown x m t k r i
