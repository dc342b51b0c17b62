-- The width of a link, the form of its records, and the layouts of a record and of a counter block. Assumes nothing.
use Rattle.std.specs.Prelude.{Bool, ◌&&◌, List, ◌++◌, ℕ, zero, suc, ◌+◌, ◌-◌, ◌^◌, ◌≤◌, leb, length, drop}
use Rattle.blocks.specs.Bytes.{big_endian, value, part}
use Rattle.links.specs.declared.Form.{Form}
use Rattle.links.specs.declared.Width.{Width}
use Rattle.links.specs.declared.Width.TheVariants.{Narrow, Wide}

-- ---- sizes, in bytes

-- a link number; the number of a counter block
abbrev pub number_size : ℕ
number_size = 4

abbrev pub index_size : ℕ
index_size = 4

-- the sequence number in a counter block, the most that a record's can have; the longest tag
abbrev pub sequence_most : ℕ
sequence_most = 8

abbrev pub tag_most : ℕ
tag_most = 16

-- the longest message
abbrev pub longest : ℕ
longest = 256

-- ---- the form of a record: the bytes of its sequence number and of its tag

-- a form that a record can have
pub record Proper (f : Form) : Type 0 where
  pub sequence : f.sequence ≤ sequence_most
  pub tag : f.tag ≤ tag_most

module _ (f : Form) where
  -- what stands before the ciphertext, and all that a record adds to its message
  abbrev pub head_size : ℕ
  head_size = number_size + f.sequence

  abbrev pub added : ℕ
  added = head_size + f.tag

  abbrev pub record_size : ℕ → ℕ
  record_size m = m + added

  -- the greatest sequence number
  abbrev pub greatest : ℕ
  greatest = 256 ^ f.sequence - 1

  -- whether a link of such records, keyed or not, counts as keyed with s for its last number or its highest
  abbrev pub usable : Bool → ℕ → Bool
  usable keyed s = keyed && leb s greatest

-- ---- the width of a link: how many bytes its records have for their sequence numbers

-- told 0 a link is narrow, told any other number wide
abbrev pub told : ℕ → Width
told zero = Narrow
told (suc n) = Wide

abbrev pub sequence_size : Width → ℕ
sequence_size Narrow = 4
sequence_size Wide = 8

abbrev pub form_of : Width → Form
form_of w = record { sequence = sequence_size w; tag = tag_most }

-- ---- layouts

-- counter block i of the sealing with the sequence number s on the link number n
unfoldable pub counter_block : ℕ → ℕ → ℕ → List ℕ
counter_block n s i = big_endian number_size n ++ (big_endian sequence_most s ++ big_endian index_size i)

module _ (f : Form) where
  -- link number, sequence number
  abbrev pub head_of : ℕ → ℕ → List ℕ
  head_of n s = big_endian number_size n ++ big_endian f.sequence s

  -- head, ciphertext, tag
  unfoldable pub record_of : ℕ → ℕ → List ℕ → List ℕ → List ℕ
  record_of n s text tag = head_of n s ++ (text ++ tag)

-- ---- what stands in a record's fields

abbrev pub link_in : List ℕ → ℕ
link_in r = value (part 0 number_size r)

module _ (f : Form) (r : List ℕ) where
  abbrev pub sequence_in : ℕ
  sequence_in = value (part number_size f.sequence r)

  abbrev pub text_in : List ℕ
  text_in = part (head_size f) (length r - added f) r

  abbrev pub tag_in : List ℕ
  tag_in = drop (length r - f.tag) r
