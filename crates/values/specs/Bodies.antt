-- Worked values of bodies, and what reading and writing them answer at their limits. Assumes nothing.
use Rattle.std.specs.Prelude.{List, [], ◌∷◌, ◌++◌, map, ℕ, ℤ, pos, negsuc, replicate}
use Rattle.blocks.specs.Bytes.{big_endian}
use Rattle.answers.specs.Answer.{number_of}
use Rattle.body.specs.Words.{words}
use Rattle.body.specs.Mark.{mark_in, written, values, mark_with}
use Rattle.body.specs.Entry.{read_answer, values_answer, write_answer}
use Rattle.values.specs.Row.{Row, ◌is◌}

-- the body of these words
abbrev pub body_of : List ℕ → List ℕ
body_of [] = []
body_of (w ∷ ws) = big_endian 4 w ++ body_of ws

-- words of kinds 1, 2 and 3, one of kind 4 for 60 minutes, one of kind 5
abbrev pub high_word : ℕ
high_word = 0x10000006

abbrev pub low_word : ℕ
low_word = 0x29a58b05

abbrev pub fraction_word : ℕ
fraction_word = 0x34000000

abbrev pub minutes_word : ℕ
minutes_word = 0x4000003c

abbrev pub skipped_word : ℕ
skipped_word = 0x50000000

-- what reading a body answers: its mark, its values into 16 bytes, its values into 17
abbrev pub read_numbers : List ℕ → List ℕ
read_numbers b = number_of (read_answer b) ∷ number_of (values_answer b 16) ∷ number_of (values_answer b 17) ∷ []

-- of a body of the kinds 1, 2 and 3 and these words
abbrev pub read_with : List ℕ → List ℕ
read_with ws = read_numbers (body_of (high_word ∷ low_word ∷ fraction_word ∷ ws))

-- each of the three refuses under n; each accepts, but for the values into 16 bytes
abbrev pub unreadable : ℕ → List ℕ
unreadable n = n ∷ n ∷ n ∷ []

abbrev pub readable : List ℕ
readable = 0 ∷ 4 ∷ 0 ∷ []

-- what writing into o bytes answers: a mark of s seconds and the fraction f, with no offset; one of a second, with the offset z
abbrev pub written_plain : ℕ → ℕ → ℕ → ℕ
written_plain s f o = number_of (write_answer (mark_with s f 0 (pos 841)) o)

abbrev pub written_with : ℤ → ℕ → ℕ
written_with z o = number_of (write_answer (mark_with 1 0 1 z) o)

abbrev pub body_rows : List Row
body_rows =
    -- the body of 0x69a58b05 seconds and a quarter, an hour ahead; the one of 1 second, 720 minutes behind
    (written (mark_with 0x69a58b05 0x4000000 1 (pos 60))
    is (0x10 ∷ 0 ∷ 0 ∷ 6 ∷ 0x29 ∷ 0xa5 ∷ 0x8b ∷ 5 ∷ 0x34 ∷ 0 ∷ 0 ∷ 0 ∷ 0x40 ∷ 0 ∷ 0 ∷ 0x3c ∷ []))
    ∷ (written (mark_with 1 0 1 (negsuc 719)) is (0x10 ∷ 0 ∷ 0 ∷ 0 ∷ 0x20 ∷ 0 ∷ 0 ∷ 1 ∷ 0x30 ∷ 0 ∷ 0 ∷ 0 ∷ 0x4f ∷ 0xff ∷ 0xfd ∷ 0x30 ∷ []))
    -- what a body in another order, with a skipped word, says: 1 and 2 in the seconds, 3 in the fraction, a minute behind
    ∷ (values (mark_in (words (0x4f ∷ 0xff ∷ 0xff ∷ 0xff ∷ 0x30 ∷ 0 ∷ 0 ∷ 3 ∷ 0x50 ∷ 0 ∷ 0 ∷ 0 ∷ 0x20 ∷ 0 ∷ 0 ∷ 2 ∷ 0x10 ∷ 0 ∷ 0 ∷ 1 ∷ [])))
    is (0 ∷ 0 ∷ 0 ∷ 0 ∷ 0x10 ∷ 0 ∷ 0 ∷ 2 ∷ 0 ∷ 0 ∷ 0 ∷ 3 ∷ 1 ∷ 0xff ∷ 0xff ∷ 0xff ∷ 0xff ∷ []))
    -- what one without an offset says
    ∷ (values (mark_in (words (body_of (high_word ∷ low_word ∷ fraction_word ∷ []))))
    is (0 ∷ 0 ∷ 0 ∷ 0 ∷ 0x69 ∷ 0xa5 ∷ 0x8b ∷ 5 ∷ 4 ∷ 0 ∷ 0 ∷ 0 ∷ 0 ∷ 0 ∷ 0 ∷ 0 ∷ 0 ∷ []))
    -- read: 0, 2, 4, 252, 256 and 260 bytes
    ∷ (read_numbers [] is unreadable 30)
    ∷ (read_numbers (0x10 ∷ 0 ∷ []) is unreadable 30)
    ∷ (read_numbers (body_of (high_word ∷ [])) is unreadable 32)
    ∷ (read_with (replicate 60 skipped_word) is readable)
    ∷ (read_with (replicate 61 skipped_word) is readable)
    ∷ (read_with (replicate 62 skipped_word) is unreadable 30)
    -- offsets of -721, -720, 840 and 841 minutes
    ∷ (read_with (0x4ffffd2f ∷ []) is unreadable 31)
    ∷ (read_with (0x4ffffd30 ∷ []) is readable)
    ∷ (read_with (0x40000348 ∷ []) is readable)
    ∷ (read_with (0x40000349 ∷ []) is unreadable 31)
    -- kind 0; kinds 5 and 15, also twice
    ∷ (read_with (0x00000001 ∷ []) is unreadable 31)
    ∷ (read_with (0x50000000 ∷ 0xf0000000 ∷ 0x50000001 ∷ []) is readable)
    -- kinds 1 to 4 repeated
    ∷ (read_with (high_word ∷ []) is unreadable 31)
    ∷ (read_with (low_word ∷ []) is unreadable 31)
    ∷ (read_with (fraction_word ∷ []) is unreadable 31)
    ∷ (read_with (minutes_word ∷ minutes_word ∷ []) is unreadable 31)
    -- kinds 1, 2, 3 and 4 missing
    ∷ (read_numbers (body_of (low_word ∷ fraction_word ∷ minutes_word ∷ [])) is unreadable 32)
    ∷ (read_numbers (body_of (high_word ∷ fraction_word ∷ minutes_word ∷ [])) is unreadable 32)
    ∷ (read_numbers (body_of (high_word ∷ low_word ∷ minutes_word ∷ [])) is unreadable 32)
    ∷ (read_with [] is readable)
    -- two causes at once: a length and kind 0; kind 0, or a repeated kind, and a missing one
    ∷ (read_numbers (body_of (replicate 65 0)) is unreadable 30)
    ∷ (read_numbers (body_of (high_word ∷ low_word ∷ 0x00000001 ∷ [])) is unreadable 31)
    ∷ (read_numbers (body_of (high_word ∷ low_word ∷ low_word ∷ [])) is unreadable 31)
    -- written: seconds of 56 and of 57 bits, a fraction of 28 and of 29; into 11 and 12 bytes, and into none
    ∷ ((written_plain 0xffffffffffffff 0 12 ∷ written_plain 0x100000000000000 0 12 ∷ []) is (0 ∷ 31 ∷ []))
    ∷ ((written_plain 1 0xfffffff 12 ∷ written_plain 1 0x10000000 12 ∷ []) is (0 ∷ 31 ∷ []))
    ∷ ((written_plain 1 0 11 ∷ written_plain 1 0 12 ∷ written_plain 0x100000000000000 0 0 ∷ written_plain 1 0x10000000 0 ∷ [])
    is (4 ∷ 0 ∷ 31 ∷ 31 ∷ []))
    -- with offsets of -721, -720, 840 and 841 minutes, into 16 and 15 bytes
    ∷ ((written_with (negsuc 720) 16 ∷ written_with (negsuc 719) 16 ∷ written_with (pos 840) 16 ∷ written_with (pos 841) 16 ∷ [])
    is (31 ∷ 0 ∷ 0 ∷ 31 ∷ []))
    ∷ ((written_with (negsuc 720) 15 ∷ written_with (negsuc 719) 15 ∷ written_with (pos 840) 15 ∷ written_with (pos 841) 15 ∷ [])
    is (31 ∷ 4 ∷ 4 ∷ 31 ∷ []))
    ∷ []
