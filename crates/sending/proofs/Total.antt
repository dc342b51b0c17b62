-- When the calls on a sending link return 0, and that each refusal has exactly its cause and changes no byte. Assumes nothing.
use Rattle.prelude.proofs.{◌≡◌, refl, sym, ◌↔◌, Iff-trans, List, [], ℕ, ◌≤◌, length, drop}
use Rattle.blocks.specs.Bytes.{Bytes, put}
use Rattle.answers.specs.Answer.{refused, Accepts, FirstOf}
use Rattle.answers.proofs.First.{refused-exactly, refused-here, if-refused, fails-exactly}
use Rattle.layout.specs.Keyed.{SaysKeyed}
use Rattle.calls.specs.{Entry.report_causes, Entry.report_answer, Demand.Accepted}
use Rattle.sending.specs.Stored.{sender_in}
use Rattle.sending.specs.Calls.{sender_keying, keyed_sender, shares_size, sealed_causes}
use Rattle.sending.specs.Calls.{sealed_answer, sealed_link, record_output, shares_output}
use Rattle.sending.proofs.{Stored.sender-keyed-exactly, Accepted.call-accepted, Accepted.accepted-call}

-- ---- keying

pub keying-unchanged : (link : List ℕ) (number wide : ℕ) (keys : List ℕ) (r : ℕ) → sender_keying link keys ≡ refused r
    → keyed_sender link number wide keys ≡ link
keying-unchanged link number wide keys r e = sym (if-refused e _ link)

-- ---- sealing

-- 0 is returned exactly where sealing on the link that the bytes say is accepted and the second slice is long enough
pub stored-accepted-exactly : (link m t : List ℕ) (o s : ℕ)
    → Accepts (sealed_answer link m t o s) ↔ (Accepted (sender_in link) m t o × (shares_size ≤ s))
stored-accepted-exactly link m t o s = (accepted-call link m t o s, λ h. call-accepted link m t o s h.0 h.1)

pub stored-refused-exactly : (link m t : List ℕ) (o s n : ℕ) → sealed_answer link m t o s ≡ refused n ↔ FirstOf n (sealed_causes link m t o s)
unfolding sealed_answer
stored-refused-exactly link m t o s n = refused-exactly n (sealed_causes link m t o s) []

pub stored-unchanged : (link m t o s : List ℕ) (n : ℕ) → sealed_answer link m t (length o) (length s) ≡ refused n
    → (sealed_link link m t (length o) (length s) ≡ link) × (record_output link m t o s ≡ o) × (shares_output link m t o s ≡ s)
stored-unchanged link m t o s n e = (sym (if-refused e _ link), sym (if-refused e (put 0 _ o) o), sym (if-refused e (put 0 _ s) s))

-- ---- sealing and the report refuse under 20 exactly where the bytes do not say a link that counts as keyed

pub stored-unkeyed-exactly : (link m t : List ℕ) (o s : ℕ) → Bytes link
    → sealed_answer link m t o s ≡ refused 20 ↔ (SaysKeyed 110 109 link → ⊥)
unfolding sealed_answer
stored-unkeyed-exactly link m t o s b =
    Iff-trans (refused-here 20 _ (drop 1 (sealed_causes link m t o s)) [] refl) (fails-exactly _ (sender-keyed-exactly link b))

pub report-unkeyed-exactly : (link m t : List ℕ) (k r i o : ℕ) → Bytes link
    → report_answer (sender_in link) m t k r i o ≡ refused 20 ↔ (SaysKeyed 110 109 link → ⊥)
unfolding report_answer
report-unkeyed-exactly link m t k r i o b =
    Iff-trans (refused-here 20 _ (drop 1 (report_causes (sender_in link) m t k r i o)) [] refl)
    (fails-exactly _ (sender-keyed-exactly link b))
