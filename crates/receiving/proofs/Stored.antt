-- A receiving link's bytes say that link, bytes whose flag and width are 0 or 1 are those of the link that they say, and what bytes say
-- can be stored; when it counts as keyed. Assumes nothing.
use Rattle.prelude.proofs.{◌≡◌, refl, ◌↔◌, true, List, ℕ, ◌≤◌, arith, length, get_or}
use Rattle.blocks.specs.Bytes.{Bytes}
use Rattle.links.specs.{Record.usable}
use Rattle.layout.specs.{Keyed.SaysKeyed}
use Rattle.layout.proofs.{Kind.said, Kind.stored, Kind.of-said, SaidKeyed.said-keyed}
use Rattle.receiver.specs.{Receivers.receiver_form, declared.Receiver.Receiver}
use Rattle.receiving.specs.Stored.{width_at, receiver_size, receiver_in, receiver_bytes, Storable, held, holding}

-- ---- as a link of any kind: keys of 16 bytes and a word of 8

-- stored and read
pub receiver-said : (x : Receiver) → Storable x → receiver_in (receiver_bytes x) ≡ x
receiver-said x S =
    let F = S.formed in
    said 16 8 held holding x
    (record { number = F.number; last = S.highest; word = S.word; ke = F.ke.size; km = F.km.size }) refl

-- read and stored
pub receiver-bytes : (b : List ℕ) → Bytes b → length b ≡ receiver_size → get_or b 0 0 ≤ 1 → get_or b width_at 0 ≤ 1
    → receiver_bytes (receiver_in b) ≡ b
receiver-bytes b h s f w = stored 16 8 held holding b h s f w refl

-- what bytes say can be stored
pub receiver-storable : (b : List ℕ) → Bytes b → Storable (receiver_in b)
receiver-storable = of-said 16 8 held holding Storable λ l F e m.
    record {
      formed = record { number = F.number; ke = record { size = F.ke; bytes = e }; km = record { size = F.km; bytes = m } };
      highest = F.last;
      word = F.word;
    }

-- ---- bytes say a link that counts as keyed exactly where they are 54, the first is 1, the last, its width, is 0 or 1, and on a narrow
-- link the highest number, in bytes 5 to 12, has 32 bits at most

pub receiver-keyed-exactly : (b : List ℕ) → Bytes b → let x = receiver_in b in
    usable (receiver_form x) x.keyed x.window.highest ≡ true ↔ SaysKeyed 54 53 b
receiver-keyed-exactly b h =
    said-keyed receiver_size width_at b h (omega arith) (λ (x : Receiver). usable (receiver_form x) x.keyed x.window.highest) refl refl
