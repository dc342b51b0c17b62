-- What the calls on a sending link answer and leave in the lent bytes. Assumes nothing.
use Rattle.std.specs.Prelude.{List, [], ◌∷◌, ◌++◌, ℕ, ◌+◌, ltb, length}
use Rattle.blocks.specs.Bytes.{big_endian}
use Rattle.answers.specs.Answer.{Answer, done, Cause, ◌when◌, first, if_done, output}
use Rattle.links.specs.Record.{told}
use Rattle.links.specs.Links.{sender_keys, sender_of}
use Rattle.layout.specs.Keying.{keying_answer}
use Rattle.masking.specs.Shares.{flat, at}
use Rattle.calls.specs.Numbered.{tape_need}
use Rattle.calls.specs.Sealed.{tag_shares, sealed_record}
use Rattle.calls.specs.Entry.{input_causes, room_causes, advanced}
use Rattle.sending.specs.Stored.{sender_size, sender_in, sender_bytes}

-- ---- keying, and the link's bytes at the end

abbrev pub sender_keying : List ℕ → List ℕ → Answer
sender_keying = keying_answer sender_size sender_keys

abbrev pub keyed_sender : List ℕ → ℕ → ℕ → List ℕ → List ℕ
keyed_sender link number wide keys = if_done (sender_keying link keys) (sender_bytes (sender_of number (told wide) keys)) link

-- ---- sealing, with slices of o bytes for the record and of s for the tag's shares and the tape count

-- the bytes of the count, and of the shares and the count
abbrev pub count_size : ℕ
count_size = 4

abbrev pub shares_size : ℕ
shares_size = 48 + count_size

-- the cause of a second slice that is too short; the causes of sealing, and that one
abbrev pub slice_causes : ℕ → List Cause
slice_causes s = (4 when ltb s shares_size) ∷ []

abbrev pub sealed_causes : List ℕ → List ℕ → List ℕ → ℕ → ℕ → List Cause
sealed_causes link m t o s =
    let x = sender_in link in input_causes x m t (room_causes x m o ++ slice_causes s)

unfoldable pub sealed_answer : List ℕ → List ℕ → List ℕ → ℕ → ℕ → Answer
sealed_answer link m t o s = first (sealed_causes link m t o s) (done [])

-- the link's bytes, the record and the second slice at the end
abbrev pub sealed_link : List ℕ → List ℕ → List ℕ → ℕ → ℕ → List ℕ
sealed_link link m t o s = if_done (sealed_answer link m t o s) (sender_bytes (advanced (sender_in link))) link

abbrev pub record_output : List ℕ → List ℕ → List ℕ → List ℕ → List ℕ → List ℕ
record_output link m t o s = output (sealed_answer link m t (length o) (length s)) (sealed_record (sender_in link) m (at t)) o

abbrev pub shares_output : List ℕ → List ℕ → List ℕ → List ℕ → List ℕ → List ℕ
shares_output link m t o s =
    output (sealed_answer link m t (length o) (length s))
    (flat (tag_shares (sender_in link) m (at t)) ++ big_endian count_size (tape_need (length m))) s
