-- Worked values of counter blocks and records, of links as they are keyed, and a record sealed plainly. Assumes nothing.
use Rattle.std.specs.Prelude.{cond, List, [], ◌∷◌, ◌++◌, ℕ, ◌+◌, replicate}
use Rattle.blocks.specs.Bytes.{big_endian, tab}
use Rattle.baksheesh.specs.Baksheesh.{encrypt}
use Rattle.links.specs.Record.{record_size, greatest, told, form_of, counter_block, record_of}
use Rattle.links.specs.Links.{sender_of, sender_form}
use Rattle.links.specs.declared.Sender.{Sender}
use Rattle.links.specs.declared.Width.{Width}
use Rattle.links.specs.declared.Width.TheVariants.{Narrow, Wide}
use Rattle.plain.specs.Plain.{plain_record}
use Rattle.values.specs.Row.{Row, ◌is◌}

-- the shortest record of a width, the longest, and the greatest number
abbrev pub sizes : Width → List ℕ
sizes w = record_size (form_of w) 0 ∷ record_size (form_of w) 256 ∷ greatest (form_of w) ∷ []

-- the bytes 0, 1, 2 and so on, n of them
abbrev pub rising : ℕ → List ℕ
rising n = tab n (λ j. j)

-- the fields of a sender: 1 if it is keyed, its number, the last number, the shortest record, its keys
abbrev pub sender_fields : Sender → List ℕ
sender_fields x = cond x.keyed 1 0 ∷ x.number ∷ x.last ∷ record_size (sender_form x) 0 ∷ (x.ke ++ x.km)

abbrev pub record_rows : List Row
record_rows =
    -- counter block 6 and a record of the link number 0x01020304 and the sequence number 5
    (counter_block 0x01020304 5 6 is (1 ∷ 2 ∷ 3 ∷ 4 ∷ 0 ∷ 0 ∷ 0 ∷ 0 ∷ 0 ∷ 0 ∷ 0 ∷ 5 ∷ 0 ∷ 0 ∷ 0 ∷ 6 ∷ []))
    ∷ (record_of (form_of Narrow) 0x01020304 5 (0xaa ∷ []) (replicate 16 0xbb) is (1 ∷ 2 ∷ 3 ∷ 4 ∷ 0 ∷ 0 ∷ 0 ∷ 5 ∷ 0xaa ∷ replicate 16 0xbb))
    -- with a number of eight bytes: in the same bytes of the counter block, and in eight of a wide record
    ∷ (counter_block 0x01020304 0x05060708090a0b0c 13 is (1 ∷ 2 ∷ 3 ∷ 4 ∷ 5 ∷ 6 ∷ 7 ∷ 8 ∷ 9 ∷ 10 ∷ 11 ∷ 12 ∷ 0 ∷ 0 ∷ 0 ∷ 13 ∷ []))
    ∷ (record_of (form_of Wide) 0x01020304 0x05060708090a0b0c (0xaa ∷ []) (replicate 16 0xbb)
    is (1 ∷ 2 ∷ 3 ∷ 4 ∷ 5 ∷ 6 ∷ 7 ∷ 8 ∷ 9 ∷ 10 ∷ 11 ∷ 12 ∷ 0xaa ∷ replicate 16 0xbb))
    -- told 0, 1 and 4294967295: the shortest and the longest record, and the greatest number
    ∷ ((sizes (told 0) ++ (sizes (told 1) ++ sizes (told 4294967295)))
    is (24 ∷ 280 ∷ 4294967295 ∷ 28 ∷ 284 ∷ 18446744073709551615 ∷ 28 ∷ 284 ∷ 18446744073709551615 ∷ []))
    -- a sender keyed as link 7, told 2 and 0
    ∷ (sender_fields (sender_of 7 (told 2) (rising 96)) is (1 ∷ 7 ∷ 0 ∷ 28 ∷ rising 96))
    ∷ (sender_fields (sender_of 7 (told 0) (rising 96)) is (1 ∷ 7 ∷ 0 ∷ 24 ∷ rising 96))
    -- 17 bytes sealed under two keys into a wide record
    ∷ (plain_record (form_of Wide) (encrypt (big_endian 16 0x000102030405060708090a0b0c0d0e0f))
    (encrypt (big_endian 16 0x101112131415161718191a1b1c1d1e1f)) 0x01020304 0x05060708090a0b0c (tab 17 (λ j. 192 + j))
    is big_endian 45 0x0102030405060708090a0b0caa7da1d4e701d93b90c801c4d8f50aa6340ab836b41c5f666506fb5a596e92f3ff)
    ∷ []
