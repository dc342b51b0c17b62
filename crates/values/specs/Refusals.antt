-- Which refusal each entry answers: every number, on both sides of its limit, and where two neighbouring causes apply at once.
-- Assumes nothing.
use Rattle.std.specs.Prelude.{Bool, true, false, List, [], ◌∷◌, map, ℕ, replicate}
use Rattle.blocks.specs.Bytes.{zeros}
use Rattle.answers.specs.Answer.{number_of}
use Rattle.links.specs.Record.{told, form_of, record_of}
use Rattle.links.specs.Links.{sender_keys, key_answer}
use Rattle.links.specs.declared.Width.{Width}
use Rattle.links.specs.declared.Width.TheVariants.{Narrow, Wide}
use Rattle.links.specs.declared.Sender.{Sender}
use Rattle.plain.specs.Plain.{plain_record}
use Rattle.plain.specs.Entry.{plain_answer}
use Rattle.opening.specs.Opener.{receiver_keys}
use Rattle.calls.specs.Entry.{seal_answer, report_answer}
use Rattle.values.specs.Row.{Row, ◌is◌}
use Rattle.values.specs.Windows.{early, opener_with, open_number}

-- n zeros
abbrev pub zero_bytes : ℕ → List ℕ
zero_bytes n = replicate n 0

-- keying with n bytes a link that takes t
abbrev pub keyed_with : ℕ → ℕ → ℕ
keyed_with t n = number_of (key_answer t (zero_bytes n))

-- plain sealing told w, with k bytes of keys, the number s, a message of m bytes and room for o
abbrev pub plain_on : ℕ → ℕ → ℕ → ℕ → ℕ → ℕ
plain_on w k s m o = number_of (plain_answer (form_of (told w)) (zero_bytes k) s (zero_bytes m) o)

-- a record of link n with the number s, a text of m bytes and a tag of zeros; the one that sealing makes of no message
abbrev pub record_with : Width → ℕ → ℕ → ℕ → List ℕ
record_with v n s m = record_of (form_of v) n s (zero_bytes m) zeros

abbrev pub sealed_empty : Width → ℕ → List ℕ
sealed_empty v s = plain_record (form_of v) (λ b. b) (λ b. b) 7 s []

-- opening of r with room for o bytes on link 7, whose numbers 1 to 3 were accepted
abbrev pub open_on : Width → List ℕ → ℕ → ℕ
open_on v r o = open_number v (opener_with true early) r o

-- the sender of link 7, keyed or not, of that width, with the last number l
abbrev pub sender_with : Bool → Width → ℕ → Sender
sender_with b v l = record { keyed = b; number = 7; last = l; width = v; ke = replicate 48 0xaa; km = replicate 48 0xbb }

-- a keyed one
abbrev pub ready : Width → ℕ → Sender
ready = sender_with true

-- sealing m bytes on x with a tape of t and room for o; the report of lane i of round r of call k
abbrev pub seal_on : Sender → ℕ → ℕ → ℕ → ℕ
seal_on x m t o = number_of (seal_answer x (zero_bytes m) (zero_bytes t) o)

abbrev pub report_on : Sender → ℕ → ℕ → ℕ → ℕ → ℕ → ℕ → ℕ
report_on x m t k r i o = number_of (report_answer x (zero_bytes m) (zero_bytes t) k r i o)

-- the report of an empty message on a link with a number left, the tape at its need
abbrev pub lane_on : ℕ → ℕ → ℕ → ℕ → ℕ
lane_on k r i o = report_on (ready Narrow 0) 0 2368 k r i o

abbrev pub refusal_rows : List Row
refusal_rows =
    -- keying a sender and a receiver
    (map (keyed_with sender_keys) (0 ∷ 95 ∷ 96 ∷ 97 ∷ []) is (1 ∷ 1 ∷ 0 ∷ 1 ∷ []))
    ∷ (map (keyed_with receiver_keys) (0 ∷ 31 ∷ 32 ∷ 33 ∷ []) is (1 ∷ 1 ∷ 0 ∷ 1 ∷ []))
    -- plain sealing: 1 for 31 and 33 bytes of keys, also with the number 0
    ∷ ((plain_on 0 31 1 0 24 ∷ plain_on 0 32 1 0 24 ∷ plain_on 0 33 1 0 24 ∷ plain_on 0 31 0 0 24 ∷ []) is (1 ∷ 0 ∷ 1 ∷ 1 ∷ []))
    -- 10 for the number 0, and for one above the greatest of the width, also with 257 bytes
    ∷ (map (λ s. plain_on 0 32 s 0 24) (0 ∷ 1 ∷ 4294967295 ∷ 4294967296 ∷ []) is (10 ∷ 0 ∷ 0 ∷ 10 ∷ []))
    ∷ (map (λ s. plain_on 2 32 s 0 28) (0 ∷ 1 ∷ 4294967296 ∷ 18446744073709551615 ∷ []) is (10 ∷ 0 ∷ 0 ∷ 0 ∷ []))
    ∷ (map (λ s. plain_on 0 32 s 257 0) (0 ∷ 4294967296 ∷ []) is (10 ∷ 10 ∷ []))
    -- 2 for 257 bytes, also with no room; 4 for a byte less than the record
    ∷ ((plain_on 0 32 1 256 280 ∷ plain_on 0 32 1 257 281 ∷ plain_on 0 32 1 257 0 ∷ []) is (0 ∷ 2 ∷ 2 ∷ []))
    ∷ ((plain_on 0 32 1 0 23 ∷ plain_on 0 32 1 256 279 ∷ plain_on 1 32 1 0 27 ∷ []) is (4 ∷ 4 ∷ 4 ∷ []))
    -- opening: 20 on a link that is not keyed, also of 23 bytes
    ∷ (map (λ r. open_number Narrow (opener_with false early) r 0) (sealed_empty Narrow 4 ∷ zero_bytes 23 ∷ []) is (20 ∷ 20 ∷ []))
    -- 7 for a byte too few or too many, also with another link's number; 8 for that
    ∷ (map (λ r. open_on Narrow r 256) (zero_bytes 23 ∷ zero_bytes 24 ∷ zero_bytes 280 ∷ zero_bytes 281 ∷ []) is (7 ∷ 8 ∷ 8 ∷ 7 ∷ []))
    ∷ (map (λ r. open_on Wide r 256) (zero_bytes 27 ∷ zero_bytes 28 ∷ zero_bytes 284 ∷ zero_bytes 285 ∷ []) is (7 ∷ 8 ∷ 8 ∷ 7 ∷ []))
    -- 8 also with no room; 4 for a byte less than the message, also with the number 0; then 35 for that
    ∷ (map (λ r. open_on Narrow r 1)
    (record_with Narrow 8 4 2 ∷ record_with Narrow 7 4 2 ∷ record_with Narrow 7 0 2 ∷ record_with Narrow 7 0 1 ∷ [])
    is (8 ∷ 4 ∷ 4 ∷ 35 ∷ []))
    -- 22 for a number accepted before, with a wrong tag and with the right one; 9 for a wrong tag; else the record is accepted
    ∷ (map (λ r. open_on Narrow r 0) (record_with Narrow 7 2 0 ∷ sealed_empty Narrow 2 ∷ record_with Narrow 7 4 0 ∷ sealed_empty Narrow 4 ∷ [])
    is (22 ∷ 22 ∷ 9 ∷ 0 ∷ []))
    ∷ (map (λ r. open_on Wide r 0) (record_with Wide 7 2 0 ∷ sealed_empty Wide 2 ∷ record_with Wide 7 4 0 ∷ sealed_empty Wide 4 ∷ [])
    is (22 ∷ 22 ∷ 9 ∷ 0 ∷ []))
    -- sealing: 20 on a link that is not keyed, or narrow with a last number that is too large, also with no number left
    ∷ (map (λ x. seal_on x 0 2368 24) (sender_with false Narrow 0 ∷ sender_with false Narrow 4294967295 ∷ ready Narrow 4294967296 ∷ [])
    is (20 ∷ 20 ∷ 20 ∷ []))
    -- 21 with no number left, also with 257 bytes
    ∷ (map (λ l. seal_on (ready Narrow l) 0 2368 24) (4294967294 ∷ 4294967295 ∷ []) is (0 ∷ 21 ∷ []))
    ∷ (map (λ l. seal_on (ready Wide l) 0 2368 28) (4294967295 ∷ 18446744073709551614 ∷ 18446744073709551615 ∷ []) is (0 ∷ 0 ∷ 21 ∷ []))
    ∷ ((seal_on (ready Narrow 4294967295) 257 0 0 ∷ []) is (21 ∷ []))
    -- 2 for 257 bytes, also with no tape; 3 for a tape a byte too short, also with no room; 4 for a byte less than the record
    ∷ ((seal_on (ready Narrow 0) 256 0 0 ∷ seal_on (ready Narrow 0) 257 0 0 ∷ []) is (3 ∷ 2 ∷ []))
    ∷ ((seal_on (ready Narrow 0) 0 2367 24 ∷ seal_on (ready Narrow 0) 0 2367 0 ∷ []) is (3 ∷ 3 ∷ []))
    ∷ ((seal_on (ready Narrow 0) 0 2368 23 ∷ seal_on (ready Narrow 0) 0 2368 24 ∷ []) is (4 ∷ 0 ∷ []))
    ∷ ((seal_on (ready Wide 0) 0 2368 27 ∷ seal_on (ready Wide 0) 0 2368 28 ∷ []) is (4 ∷ 0 ∷ []))
    -- the report: the same up to 3, also with a bad call
    ∷ (map (λ x. report_on x 0 2368 1 1 0 48) (sender_with false Narrow 4294967295 ∷ ready Narrow 4294967296 ∷ ready Narrow 4294967295 ∷ [])
    is (20 ∷ 20 ∷ 21 ∷ []))
    ∷ ((report_on (ready Narrow 4294967295) 257 0 1 1 0 48 ∷ report_on (ready Narrow 0) 257 0 1 1 0 48 ∷ []) is (21 ∷ 2 ∷ []))
    ∷ ((report_on (ready Narrow 0) 0 2367 1 1 0 48 ∷ report_on (ready Narrow 0) 0 2367 0 1 0 48 ∷ []) is (3 ∷ 3 ∷ []))
    -- 6 for call 0 or 3, also with a bad round; 33 for round 0 or 37, also with a bad lane; 34 for lane 3, also with no room; 4 for 47
    ∷ (map (λ k. lane_on k 1 0 48) (0 ∷ 1 ∷ 2 ∷ 3 ∷ []) is (6 ∷ 0 ∷ 0 ∷ 6 ∷ []))
    ∷ (map (λ r. lane_on 1 r 0 48) (0 ∷ 1 ∷ 36 ∷ 37 ∷ []) is (33 ∷ 0 ∷ 0 ∷ 33 ∷ []))
    ∷ (map (λ i. lane_on 1 1 i 48) (0 ∷ 1 ∷ 2 ∷ 3 ∷ []) is (0 ∷ 0 ∷ 0 ∷ 34 ∷ []))
    ∷ ((lane_on 3 37 0 48 ∷ lane_on 1 37 3 48 ∷ lane_on 1 1 3 47 ∷ lane_on 1 1 2 47 ∷ []) is (6 ∷ 33 ∷ 34 ∷ 4 ∷ []))
    ∷ []
