-- Links as bytes: a flag, link number, last number, keys, and a tail. Assumes nothing.
use Rattle.std.specs.Prelude.{Bool, true, false, ◌&&◌, List, ◌∷◌, ◌++◌, ℕ, ◌+◌, eqb, leb, length, drop, get_or}
use Rattle.blocks.specs.Bytes.{big_endian, value, part}
use Rattle.links.specs.Record.{number_size, sequence_most, told}
use Rattle.links.specs.declared.Width.{Width}
use Rattle.links.specs.declared.Width.TheVariants.{Narrow, Wide}

-- the bytes of the last number used, of a receiver the highest accepted
abbrev pub last_size : ℕ
last_size = sequence_most

-- where the link number, the last number and the keys begin
abbrev pub number_at : ℕ
number_at = 1

abbrev pub last_at : ℕ
last_at = number_at + number_size

abbrev pub keys_at : ℕ
keys_at = last_at + last_size

-- a link with k bytes of keys and a tail of t
abbrev pub link_size : ℕ → ℕ → ℕ
link_size k t = keys_at + (k + t)

-- 1 if keyed
abbrev pub flag : Bool → ℕ
flag true = 1
flag false = 0

-- the width, a byte of the tail
abbrev pub width_byte : Width → ℕ
width_byte Narrow = 0
width_byte Wide = 1

abbrev pub link_bytes : Bool → ℕ → ℕ → List ℕ → List ℕ → List ℕ → List ℕ
link_bytes keyed number last ke km tail = flag keyed ∷ (big_endian number_size number ++ (big_endian last_size last ++ (ke ++ (km ++ tail))))

-- ---- what bytes say

abbrev pub keyed_in : List ℕ → Bool
keyed_in b = eqb (get_or b 0 0) 1

abbrev pub number_in : List ℕ → ℕ
number_in b = value (part number_at number_size b)

abbrev pub last_in : List ℕ → ℕ
last_in b = value (part last_at last_size b)

-- n bytes of key material, from its byte p
abbrev pub keys_in : ℕ → ℕ → List ℕ → List ℕ
keys_in p n b = part (keys_at + p) n b

-- behind k bytes of keys
abbrev pub tail_in : ℕ → List ℕ → List ℕ
tail_in k b = drop (keys_at + k) b

-- the width, in the byte at p
abbrev pub width_in : ℕ → List ℕ → Width
width_in p b = told (get_or b p 0)

-- bytes that can say a link of that size: as many, and what stands for the width is in its range
abbrev pub sound : ℕ → ℕ → List ℕ → Bool
sound size p b = eqb (length b) size && leb (get_or b p 0) 1
