-- A sending link's bytes say that link, bytes whose flag and width are 0 or 1 are those of the link that they say, and what bytes say is
-- formed; when it counts as keyed. Assumes nothing.
use Rattle.prelude.proofs.{◌≡◌, refl, ◌↔◌, true, List, ℕ, ◌^◌, ◌≤◌, ◌<◌, arith, length, get_or}
use Rattle.blocks.specs.Bytes.{Bytes, big_endian, value}
use Rattle.links.specs.{Record.number_size, Record.usable, Links.sender_form, declared.Sender.Sender}
use Rattle.layout.specs.{Layout.last_size, Keyed.SaysKeyed}
use Rattle.layout.proofs.{Kind.said, Kind.stored, Kind.of-said, SaidKeyed.said-keyed}
use Rattle.calls.specs.Demand.{Formed}
use Rattle.sending.specs.Stored.{width_at, sender_size, sender_in, sender_bytes, held, holding}

-- ---- as a link of any kind: keys of 48 bytes and no word

-- stored and read
pub sender-said : (x : Sender) → x.number < 256 ^ number_size → x.last < 256 ^ last_size → length x.ke ≡ 48 → length x.km ≡ 48
    → sender_in (sender_bytes x) ≡ x
unfolding big_endian
sender-said x hn hl he hm =
    said 48 0 held holding x (record { number = hn; last = hl; word = omega arith; ke = he; km = hm }) refl

-- read and stored
pub sender-bytes : (b : List ℕ) → Bytes b → length b ≡ sender_size → get_or b 0 0 ≤ 1 → get_or b width_at 0 ≤ 1 → sender_bytes (sender_in b) ≡ b
unfolding big_endian value
sender-bytes b h s f w = stored 48 0 held holding b h s f w refl

-- what bytes say is formed
pub sender-formed : (b : List ℕ) → Bytes b → Formed (sender_in b)
sender-formed = of-said 48 0 held holding Formed λ l F e m.
    record { number = F.number; last = F.last; ke-size = F.ke; ke-bytes = e; km-size = F.km; km-bytes = m }

-- ---- bytes say a link that counts as keyed exactly where they are 110, the first is 1, the last, its width, is 0 or 1, and on a narrow
-- link the last number, in bytes 5 to 12, has 32 bits at most

pub sender-keyed-exactly : (b : List ℕ) → Bytes b → let x = sender_in b in
    usable (sender_form x) x.keyed x.last ≡ true ↔ SaysKeyed 110 109 b
sender-keyed-exactly b h =
    said-keyed sender_size width_at b h (omega arith) (λ (x : Sender). usable (sender_form x) x.keyed x.last) refl refl
