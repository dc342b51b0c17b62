-- Worked values of links in their bytes, of receivers, and what the calls on bytes answer. Assumes nothing.
use Rattle.std.specs.Prelude.{true, cond, List, [], ◌∷◌, ◌++◌, map, ℕ, ◌+◌, replicate, take, drop}
use Rattle.answers.specs.Answer.{number_of}
use Rattle.baksheesh.specs.Baksheesh.{encrypt}
use Rattle.engines.specs.Block.{block_answer}
use Rattle.links.specs.Record.{record_size, told, form_of}
use Rattle.links.specs.Links.{fresh_sender}
use Rattle.links.specs.declared.Width.TheVariants.{Narrow, Wide}
use Rattle.plain.specs.Plain.{plain_record}
use Rattle.receiver.specs.Receivers.{receiver_as, receiver_form, receiver_of, fresh_receiver}
use Rattle.receiver.specs.declared.Receiver.{Receiver}
use Rattle.receiving.specs.Stored.{receiver_bytes}
use Rattle.receiving.specs.Calls.{receiver_keying, keyed_receiver, opened_answer}
use Rattle.sending.specs.Stored.{sender_bytes}
use Rattle.sending.specs.Calls.{sender_keying, keyed_sender, sealed_answer}
use Rattle.values.specs.Row.{Row, ◌is◌}
use Rattle.values.specs.Records.{rising}
use Rattle.values.specs.Windows.{early, later, opener_with}
use Rattle.values.specs.Refusals.{zero_bytes, record_with, sender_with}

-- b with the byte v at p
abbrev pub with_byte : ℕ → ℕ → List ℕ → List ℕ
with_byte p v b = take p b ++ (v ∷ drop (p + 1) b)

-- keyed links: a sender with the last number l, and a receiver with 1 to 3 accepted
abbrev pub sender_after : ℕ → List ℕ
sender_after l = sender_bytes (sender_with true Narrow l)

abbrev pub sample_receiver : List ℕ
sample_receiver = receiver_bytes (receiver_as Narrow (opener_with true early))

-- what sealing m bytes on a link's bytes answers, with a tape of t, room for o and a second slice of s
abbrev pub sealed_on : ℕ → ℕ → ℕ → ℕ → List ℕ → ℕ
sealed_on m t o s b = number_of (sealed_answer b (zero_bytes m) (zero_bytes t) o s)

-- no message with no tape: 20, or else 21 or 3
abbrev pub keyed_as : List ℕ → ℕ
keyed_as = sealed_on 0 0 0 0

-- what opening on a link's bytes answers to a record of no bytes: 20, or else 7
abbrev pub opened_on : List ℕ → ℕ
opened_on b = number_of (opened_answer b [] 0)

-- what the receiver answers to the record r with room for o bytes; one that sealing makes for it
abbrev pub opened_with : ℕ → List ℕ → ℕ
opened_with o r = number_of (opened_answer sample_receiver r o)

abbrev pub sealed_with : ℕ → List ℕ
sealed_with s = plain_record (form_of Narrow) (encrypt (replicate 16 0xaa)) (encrypt (replicate 16 0xbb)) 7 s []

-- the fields of a receiver: 1 if it is keyed, its number, the window, the shortest record, its keys
abbrev pub receiver_fields : Receiver → List ℕ
receiver_fields x =
    cond x.keyed 1 0 ∷ x.number ∷ x.window.highest ∷ x.window.accepted ∷ record_size (receiver_form x) 0 ∷ (x.ke ++ x.km)

-- a block call with a key, an input and an output of so many bytes
abbrev pub block_on : ℕ → ℕ → ℕ → ℕ
block_on k i o = number_of (block_answer (zero_bytes k) (zero_bytes i) (zero_bytes o))

abbrev pub link_rows : List Row
link_rows =
    -- block calls: key, input and output of 15, 16 and 17 bytes
    (map (λ n. block_on n 16 16) (15 ∷ 16 ∷ 17 ∷ []) is (5 ∷ 0 ∷ 5 ∷ []))
    ∷ (map (λ n. block_on 16 n 16) (15 ∷ 16 ∷ 17 ∷ []) is (5 ∷ 0 ∷ 5 ∷ []))
    ∷ (map (λ n. block_on 16 16 n) (15 ∷ 16 ∷ 17 ∷ []) is (5 ∷ 0 ∷ 5 ∷ []))
    -- a receiver keyed as link 7, told 2 and 0
    ∷ (receiver_fields (receiver_of 7 (told 2) (rising 32)) is (1 ∷ 7 ∷ 0 ∷ 0 ∷ 28 ∷ rising 32))
    ∷ (receiver_fields (receiver_of 7 (told 0) (rising 32)) is (1 ∷ 7 ∷ 0 ∷ 0 ∷ 24 ∷ rising 32))
    -- a sender and a receiver keyed as link 0x01020304, told 2 and 0
    ∷ (keyed_sender (zero_bytes 110) 0x01020304 2 (rising 96) is (1 ∷ 1 ∷ 2 ∷ 3 ∷ 4 ∷ (zero_bytes 8 ++ (rising 96 ++ (1 ∷ [])))))
    ∷ (keyed_receiver (replicate 54 1) 0x01020304 0 (rising 32) is (1 ∷ 1 ∷ 2 ∷ 3 ∷ 4 ∷ (zero_bytes 8 ++ (rising 32 ++ zero_bytes 9))))
    -- the bytes of a sender and of a receiver: the width at the end, behind a receiver's word
    ∷ (sender_bytes (sender_with true Wide 0x0102030405060708)
    is (1 ∷ 0 ∷ 0 ∷ 0 ∷ 7 ∷ 1 ∷ 2 ∷ 3 ∷ 4 ∷ 5 ∷ 6 ∷ 7 ∷ 8 ∷ (replicate 48 0xaa ++ (replicate 48 0xbb ++ (1 ∷ [])))))
    ∷ (receiver_bytes (receiver_as Narrow (opener_with true later))
    is (1 ∷ 0 ∷ 0 ∷ 0 ∷ 7 ∷ 0 ∷ 0 ∷ 0 ∷ 0 ∷ 0 ∷ 0 ∷ 0 ∷ 66
    ∷ (replicate 16 0xaa ++ (replicate 16 0xbb ++ (0x80 ∷ 0 ∷ 0 ∷ 0 ∷ 0 ∷ 0 ∷ 0 ∷ 1 ∷ 0 ∷ [])))))
    -- fresh links
    ∷ (sender_bytes fresh_sender is zero_bytes 110)
    ∷ (receiver_bytes fresh_receiver is zero_bytes 54)
    -- keying: a link or keys of a byte too few or too many, and both
    ∷ (map (λ n. number_of (sender_keying (zero_bytes n) (zero_bytes 96))) (109 ∷ 110 ∷ 111 ∷ []) is (1 ∷ 0 ∷ 1 ∷ []))
    ∷ (map (λ n. number_of (sender_keying (zero_bytes 110) (zero_bytes n))) (95 ∷ 96 ∷ 97 ∷ []) is (1 ∷ 0 ∷ 1 ∷ []))
    ∷ (map (λ n. number_of (receiver_keying (zero_bytes n) (zero_bytes 32))) (53 ∷ 54 ∷ 55 ∷ []) is (1 ∷ 0 ∷ 1 ∷ []))
    ∷ (map (λ n. number_of (receiver_keying (zero_bytes 54) (zero_bytes n))) (31 ∷ 32 ∷ 33 ∷ []) is (1 ∷ 0 ∷ 1 ∷ []))
    ∷ ((number_of (sender_keying (zero_bytes 109) (zero_bytes 95)) ∷ number_of (receiver_keying (zero_bytes 53) (zero_bytes 31)) ∷ [])
    is (1 ∷ 1 ∷ []))
    -- a link's first byte: 1 if keyed and anything else if not
    ∷ (map (λ v. keyed_as (with_byte 0 v (sender_after 0))) (0 ∷ 1 ∷ 2 ∷ 255 ∷ []) is (20 ∷ 3 ∷ 20 ∷ 20 ∷ []))
    ∷ (map (λ v. opened_on (with_byte 0 v sample_receiver)) (0 ∷ 1 ∷ 2 ∷ 255 ∷ []) is (20 ∷ 7 ∷ 20 ∷ 20 ∷ []))
    -- its width: 0 or 1
    ∷ (map (λ v. keyed_as (with_byte 109 v (sender_after 0))) (0 ∷ 1 ∷ 2 ∷ 255 ∷ []) is (3 ∷ 3 ∷ 20 ∷ 20 ∷ []))
    ∷ (map (λ v. opened_on (with_byte 53 v sample_receiver)) (0 ∷ 1 ∷ 2 ∷ 255 ∷ []) is (7 ∷ 7 ∷ 20 ∷ 20 ∷ []))
    -- its length: a byte too few, a byte too many, none
    ∷ ((keyed_as (take 109 (sender_after 0)) ∷ keyed_as (sender_after 0 ++ (0 ∷ [])) ∷ keyed_as [] ∷ []) is (20 ∷ 20 ∷ 20 ∷ []))
    ∷ ((opened_on (take 53 sample_receiver) ∷ opened_on (sample_receiver ++ (0 ∷ [])) ∷ opened_on [] ∷ []) is (20 ∷ 20 ∷ 20 ∷ []))
    -- its last number: at and above the greatest of either width; a narrow receiver's highest
    ∷ (map (λ l. keyed_as (sender_after l)) (4294967294 ∷ 4294967295 ∷ 4294967296 ∷ []) is (3 ∷ 21 ∷ 20 ∷ []))
    ∷ (map (λ l. keyed_as (with_byte 109 1 (sender_after l))) (4294967295 ∷ 18446744073709551614 ∷ 18446744073709551615 ∷ [])
    is (3 ∷ 3 ∷ 21 ∷ []))
    ∷ (map opened_on (with_byte 8 1 sample_receiver ∷ with_byte 9 255 sample_receiver ∷ with_byte 53 1 (with_byte 8 1 sample_receiver) ∷ [])
    is (20 ∷ 7 ∷ 7 ∷ []))
    -- sealing: two neighbouring causes at once, the outputs' last; 4 for either output, a byte too short
    ∷ ((keyed_as (with_byte 0 0 (sender_after 4294967295)) ∷ []) is (20 ∷ []))
    ∷ (map (sealed_on 257 0 0 0) (sender_after 4294967295 ∷ sender_after 0 ∷ []) is (21 ∷ 2 ∷ []))
    ∷ ((sealed_on 0 2367 23 51 (sender_after 0) ∷ sealed_on 0 2367 24 51 (sender_after 0) ∷ []) is (3 ∷ 3 ∷ []))
    ∷ ((sealed_on 0 2368 24 52 (sender_after 0) ∷ sealed_on 0 2368 23 52 (sender_after 0) ∷ sealed_on 0 2368 24 51 (sender_after 0) ∷ [])
    is (0 ∷ 4 ∷ 4 ∷ []))
    -- opening likewise: another link and no room, no room and the number 0, that number; then a number accepted before with a wrong tag,
    -- a wrong tag, and the right one
    ∷ (map (opened_with 1)
    (record_with Narrow 8 4 2 ∷ record_with Narrow 7 4 2 ∷ record_with Narrow 7 0 2 ∷ record_with Narrow 7 0 1 ∷ [])
    is (8 ∷ 4 ∷ 4 ∷ 35 ∷ []))
    ∷ (map (opened_with 0) (record_with Narrow 7 2 0 ∷ record_with Narrow 7 4 0 ∷ sealed_with 4 ∷ []) is (22 ∷ 9 ∷ 0 ∷ []))
    ∷ []
