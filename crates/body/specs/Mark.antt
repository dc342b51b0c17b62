-- A mark: what the words of a body say of it, the body that is written for it, and its values as bytes. Assumes nothing.
use Rattle.std.specs.Prelude.{Bool, true, cond, ◌&&◌, List, [], ◌∷◌, ◌++◌, ℕ, ◌+◌, ◌*◌, ◌/◌, ◌%◌, ◌^◌, eqb, ltb, ℤ, Option, Some, None}
use Rattle.blocks.specs.Bytes.{big_endian}
use Rattle.body.specs.Signed.{residue}
use Rattle.body.specs.Words.{fields, field, word_of, minutes, offset_in_range}
use Rattle.body.specs.declared.Mark.{Mark}

-- ---- read

-- the offset that a word of kind 4 says; 0 is none
abbrev pub offset_in : ℕ → Option ℤ
offset_in w = cond (eqb w 0) None (Some (minutes (field w)))

-- kind 1 has the high and kind 2 the low 28 bits of the seconds, kind 3 the fraction of a second, in 2^-28; kind 4 the offset
abbrev pub mark_of : ℕ → ℕ → ℕ → ℕ → Mark
mark_of high low fraction offset =
    record { seconds = field high * fields + field low; fraction = field fraction; offset = offset_in offset }

abbrev pub mark_in : List ℕ → Mark
mark_in ws = mark_of (word_of 1 ws) (word_of 2 ws) (word_of 3 ws) (word_of 4 ws)

-- ---- written

-- whether the offset, if there is one, is in its range
abbrev pub offset_fits : Option ℤ → Bool
offset_fits None = true
offset_fits (Some z) = offset_in_range z

-- whether each value is: 56 bits of seconds, 28 of the fraction
abbrev pub fits : Mark → Bool
fits m = ltb m.seconds (fields * fields) && (ltb m.fraction fields && offset_fits m.offset)

-- a word of kind k
abbrev pub word_bytes : ℕ → ℕ → List ℕ
word_bytes k f = big_endian 4 (k * fields + f)

abbrev pub offset_word : Option ℤ → List ℕ
offset_word None = []
offset_word (Some z) = word_bytes 4 (residue fields z)

-- kinds 1, 2, 3, then 4 where there is an offset
abbrev pub written : Mark → List ℕ
written m =
    word_bytes 1 (m.seconds / fields) ++ (word_bytes 2 (m.seconds % fields) ++ (word_bytes 3 m.fraction ++ offset_word m.offset))

-- ---- the values, in 17 bytes

-- 1 and the offset in 32 bits, or zeros
abbrev pub offset_values : Option ℤ → List ℕ
offset_values None = 0 ∷ big_endian 4 0
offset_values (Some z) = 1 ∷ big_endian 4 (residue (2 ^ 32) z)

abbrev pub values : Mark → List ℕ
values m = big_endian 8 m.seconds ++ (big_endian 4 m.fraction ++ offset_values m.offset)

-- ---- of plain numbers

-- 0 is no offset, any other number is one
abbrev pub offset_with : ℕ → ℤ → Option ℤ
offset_with given z = cond (eqb given 0) None (Some z)

abbrev pub mark_with : ℕ → ℕ → ℕ → ℤ → Mark
mark_with seconds fraction given z = record { seconds = seconds; fraction = fraction; offset = offset_with given z }
