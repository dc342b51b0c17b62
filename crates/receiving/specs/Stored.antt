-- Receiving links as a host stores them. Assumes nothing.
use Rattle.std.specs.Prelude.{cond, List, [], ◌∷◌, ◌++◌, ℕ, ◌+◌, ◌^◌, ◌<◌}
use Rattle.blocks.specs.Bytes.{big_endian, value, part}
use Rattle.links.specs.declared.Width.{Width}
use Rattle.layout.specs.Layout.{last_size, keys_at, link_size, link_bytes, keyed_in, number_in, last_in, keys_in}
use Rattle.layout.specs.Layout.{width_byte, width_in, sound}
use Rattle.layout.specs.declared.Fields.{Fields}
use Rattle.opening.specs.Opener.{receiver_keys}
use Rattle.opening.specs.Exactly.{Formed}
use Rattle.receiver.specs.Receivers.{opener_of, fresh_receiver}
use Rattle.receiver.specs.declared.Receiver.{Receiver}

-- the bytes of the window's word; where it and the width stand, the link's tail
abbrev pub word_size : ℕ
word_size = 8

abbrev pub word_at : ℕ
word_at = keys_at + receiver_keys

abbrev pub width_at : ℕ
width_at = word_at + word_size

abbrev pub receiver_size : ℕ
receiver_size = link_size receiver_keys (word_size + 1)

-- the link that bytes say; of another length, or with no width, they say one that is not keyed
abbrev pub receiver_at : List ℕ → Receiver
receiver_at b = record {
  keyed = keyed_in b;
  number = number_in b;
  window = record { highest = last_in b; accepted = value (part word_at word_size b) };
  width = width_in width_at b;
  ke = keys_in 0 16 b;
  km = keys_in 16 16 b;
}

abbrev pub receiver_in : List ℕ → Receiver
receiver_in b = cond (sound receiver_size width_at b) (receiver_at b) fresh_receiver

-- the bytes that say a link; its tail is the window's word and the width
abbrev pub tail_of : ℕ → Width → List ℕ
tail_of word w = big_endian word_size word ++ (width_byte w ∷ [])

abbrev pub receiver_bytes : Receiver → List ℕ
receiver_bytes x =
    link_bytes x.keyed x.number x.window.highest x.ke x.km
    (tail_of x.window.accepted x.width)

-- a link that bytes can say
pub record Storable (x : Receiver) : Type 0 where
  pub formed : Formed (opener_of x)
  pub highest : x.window.highest < 256 ^ last_size
  pub word : x.window.accepted < 256 ^ word_size

-- as a link of any kind, with keys of 16 bytes and the window's word: what one holds, and the link that holds it
abbrev pub held : Receiver → Fields 16
held x = record {
  keyed = x.keyed;
  number = x.number;
  last = x.window.highest;
  word = x.window.accepted;
  width = x.width;
  ke = x.ke;
  km = x.km;
}

abbrev pub holding : Fields 16 → Receiver
holding f = record {
  keyed = f.keyed;
  number = f.number;
  window = record { highest = f.last; accepted = f.word };
  width = f.width;
  ke = f.ke;
  km = f.km;
}
