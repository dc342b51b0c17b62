-- When sealing and the report are accepted, what they return then, and that each refusal has exactly its cause and changes nothing.
-- Assumes nothing.
use Rattle.prelude.proofs.{◌≡◌, refl, sym, ◌↔◌, true, List, [], ℕ, ◌+◌, ◌^◌, ◌≤◌, ◌<◌, arith, length, replicate}
use Rattle.prelude.proofs.{length-replicate}
use Rattle.blocks.specs.Bytes.{Bytes, put, block_count}
use Rattle.blocks.proofs.Parts.{part_length, part_bytes}
use Rattle.answers.specs.Answer.{refused, FirstOf}
use Rattle.answers.proofs.First.{if-refused, refused-exactly}
use Rattle.links.specs.Record.{number_size, greatest, usable, longest, record_size}
use Rattle.links.specs.{Links.sender_keys, Links.sender_of, Links.sender_form, declared.Sender.Sender, declared.Width.Width}
use Rattle.links.proofs.Widths.{usable-exactly}
use Rattle.masking.specs.{Shares.index_of, Shares.at, Call.encryption, Call.pair_count}
use Rattle.calls.specs.Entry.{seal_causes, seal_answer, seal_link, advanced, seal_output, report_causes, report_answer, report_output}
use Rattle.calls.specs.Demand.{Formed, Accepted, AcceptedSealing}
use Rattle.calls.specs.{Numbered.call_count, Numbered.tape_need, Sealed.sealing_calls, Sealed.sealed_record}
use Rattle.runs.specs.{Run.lane_of, Lanes.TellsNumber}
use Rattle.calls.proofs.Accepted.{accepted, sealable, next_fits, room, report-tells}

-- ---- accepted

-- sealing is accepted exactly where the link is keyed and has a number left, the message has at most 256 bytes, and tape and output are
-- long enough
pub accepted-exactly : (x : Sender) (m t : List ℕ) (o : ℕ) → Accepted x m t o
    ↔ ((x.keyed ≡ true) × (x.last < greatest (sender_form x)) × (length m ≤ longest) × (tape_need (length m) ≤ length t)
    × (record_size (sender_form x) (length m) ≤ o))
accepted-exactly x m t o = (
  (λ A. let S = sealable x m t o A in (S.keyed, S.left, S.small, S.long, room x m t o A)),
  (λ h. accepted x m t o (record { keyed = h.0; left = h.1; small = h.2; long = h.3 }) h.4),
)

-- ---- links hold what they can

-- keying with 96 bytes makes such a link, and sealing keeps it so
pub keyed-formed : (n : ℕ) (w : Width) (keys : List ℕ) → n < 256 ^ number_size → length keys ≡ sender_keys → Bytes keys
    → Formed (sender_of n w keys)
keyed-formed n w keys h e b = record {
  number = h;
  last = omega arith;
  ke-size = part_length 0 48 keys (omega arith);
  ke-bytes = part_bytes 0 48 keys b;
  km-size = part_length 48 48 keys (omega arith);
  km-bytes = part_bytes 48 48 keys b;
}

pub advanced-formed : (x : Sender) (m t : List ℕ) (o : ℕ) → Formed x → Accepted x m t o → Formed (advanced x)
advanced-formed x m t o F A = record {
  number = F.number;
  last = next_fits x m t (sealable x m t o A);
  ke-size = F.ke-size;
  ke-bytes = F.ke-bytes;
  km-size = F.km-size;
  km-bytes = F.km-bytes;
}

-- and it counts as keyed
pub advanced-usable : (x : Sender) (m t : List ℕ) (o : ℕ) → Accepted x m t o → let y = advanced x in
    usable (sender_form y) y.keyed y.last ≡ true
advanced-usable x m t o A =
    let S = sealable x m t o A in
    let left = S.left in
    (usable-exactly (sender_form x) x.keyed (x.last + 1)).1 (S.keyed, omega arith)

-- for every such link that is keyed and has a number left, every message of at most 256 bytes and every tape long enough there is an
-- accepted sealing
pub sealing-exists : (x : Sender) (m t : List ℕ) → Formed x → Bytes m → Bytes t
    → x.keyed ≡ true → (x.last < greatest (sender_form x)) → length m ≤ longest → tape_need (length m) ≤ length t
    → (S : AcceptedSealing) × (S.link ≡ x) × (S.message ≡ m) × (S.tape ≡ t)
sealing-exists x m t F b bt keyed left small long =
    let o : List ℕ = replicate (record_size (sender_form x) (length m)) 0 in (
      record {
        link = x;
        message = m;
        tape = t;
        out = o;
        formed = F;
        message-bytes = b;
        tape-bytes = bt;
        accepted = (accepted-exactly x m t (length o)).1 (keyed, left, small, long, simp length-replicate (omega arith));
      },
      refl,
      refl,
      refl,
    )

-- ---- each refusal number has exactly its cause, in their order

pub seal-refused-exactly : (x : Sender) (m t : List ℕ) (o n : ℕ) → seal_answer x m t o ≡ refused n ↔ FirstOf n (seal_causes x m t o)
unfolding seal_answer
seal-refused-exactly x m t o n = refused-exactly n (seal_causes x m t o) _

pub report-refused-exactly : (x : Sender) (m t : List ℕ) (k r i o n : ℕ)
    → report_answer x m t k r i o ≡ refused n ↔ FirstOf n (report_causes x m t k r i o)
unfolding report_answer
report-refused-exactly x m t k r i o n = refused-exactly n (report_causes x m t k r i o) []

-- where sealing is accepted, with room for s bytes, the report of any call, round and lane, with room for o bytes, refuses under 6 exactly
-- if the call is not one of 1 to 2n + 2; under 33 exactly if it is and the round is not one of 1 to 36; under 34 exactly if both are and
-- the lane is not one of 0 to 2; under 4 exactly if all are and o is under 48; and accepts exactly if it is not
pub report-tells-number : (x : Sender) (m t : List ℕ) (s : ℕ) → Accepted x m t s → (k r i o : ℕ)
    → TellsNumber (call_count (block_count (length m))) pair_count k r i o (report_answer x m t k r i o)
report-tells-number x m t s A k r i o = report-tells x m t k r i o (sealable x m t s A)

-- ---- a refusal leaves the link and every lent byte as they came

pub refused-unchanged : (x : Sender) (m t o : List ℕ) (n : ℕ) → seal_answer x m t (length o) ≡ refused n
    → (seal_link x m t (length o) ≡ x) × (seal_output x m t o ≡ o)
refused-unchanged x m t o n e = (sym (if-refused e (advanced x) x), sym (if-refused e (put 0 (sealed_record x m (at t)) o) o))

pub unreported-unchanged : (x : Sender) (m t : List ℕ) (k r i : ℕ) (o : List ℕ) (n : ℕ) → report_answer x m t k r i (length o) ≡ refused n
    → report_output x m t k r i o ≡ o
unreported-unchanged x m t k r i o n e =
    sym (if-refused e (put 0 (lane_of encryption (sealing_calls x m) (at t) k r (index_of i)) o) o)
