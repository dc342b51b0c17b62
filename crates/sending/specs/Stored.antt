-- Sending links as a host stores them. Assumes nothing.
use Rattle.std.specs.Prelude.{cond, List, [], ◌∷◌, ℕ, ◌+◌}
use Rattle.links.specs.Links.{sender_keys, fresh_sender}
use Rattle.links.specs.declared.Sender.{Sender}
use Rattle.layout.specs.Layout.{keys_at, link_size, link_bytes, keyed_in, number_in, last_in, keys_in}
use Rattle.layout.specs.Layout.{width_byte, width_in, sound}
use Rattle.layout.specs.declared.Fields.{Fields}

-- where the width stands, the link's tail
abbrev pub width_at : ℕ
width_at = keys_at + sender_keys

abbrev pub sender_size : ℕ
sender_size = link_size sender_keys 1

-- the link that bytes say; of another length, or with no width, they say one that is not keyed
abbrev pub sender_at : List ℕ → Sender
sender_at b = record {
  keyed = keyed_in b;
  number = number_in b;
  last = last_in b;
  width = width_in width_at b;
  ke = keys_in 0 48 b;
  km = keys_in 48 48 b;
}

abbrev pub sender_in : List ℕ → Sender
sender_in b = cond (sound sender_size width_at b) (sender_at b) fresh_sender

-- the bytes that say a link
abbrev pub sender_bytes : Sender → List ℕ
sender_bytes x = link_bytes x.keyed x.number x.last x.ke x.km (width_byte x.width ∷ [])

-- as a link of any kind, with keys of 48 bytes and no word: what one holds, and the link that holds it
abbrev pub held : Sender → Fields 48
held x = record {
  keyed = x.keyed;
  number = x.number;
  last = x.last;
  word = 0;
  width = x.width;
  ke = x.ke;
  km = x.km;
}

abbrev pub holding : Fields 48 → Sender
holding f = record { keyed = f.keyed; number = f.number; last = f.last; width = f.width; ke = f.ke; km = f.km }
