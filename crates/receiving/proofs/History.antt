-- Over every list of openings on a stored link after one keying, its window tells of the numbers accepted, none of them twice, and admits
-- exactly those that may be accepted next; on any bytes, a number that was accepted is refused from then on. Assumes nothing.
use Rattle.prelude.proofs.{◌≡◌, refl, sym, ap, ◌∙◌, subst, ◌↔◌, List, ℕ, ◌^◌, ◌<◌, arith}
use Rattle.blocks.specs.Bytes.{Bytes}
use Rattle.blocks.proofs.Numbers.{part-lt}
use Rattle.answers.specs.Answer.{Answer, done, refused, Accepts, if_done}
use Rattle.answers.proofs.First.{if-done}
use Rattle.baksheesh.specs.Baksheesh.{encrypt}
use Rattle.links.specs.{Record.number_size, Record.told}
use Rattle.links.proofs.Widths.{greatest-most}
use Rattle.layout.specs.Layout.{last_size}
use Rattle.layout.proofs.Keying.{keying-done}
use Rattle.history.specs.History.{state_after, accepted_by}
use Rattle.window.specs.Window.{Admitted}
use Rattle.window.specs.History.{Eligible, Tells, Moves}
use Rattle.window.proofs.Admits.{after-highest, after-word}
use Rattle.window.proofs.History as History
use Rattle.opening.specs.{Opener.receiver_keys, Opener.accepting, History.Request}
use Rattle.opening.proofs.{Exactly.keyed-formed, Openable.accepted-openable}
use Rattle.opening.proofs.History as Opening
use Rattle.receiver.specs.Receivers.{opener_of, receiver_as, receiver_form, receiver_of, receiver_after}
use Rattle.receiver.specs.declared.Receiver.{Receiver}
use Rattle.receiving.specs.Stored.{receiver_size, receiver_in, receiver_bytes, Storable}
use Rattle.receiving.specs.Calls.{receiver_keying, keyed_receiver}
use Rattle.receiving.specs.History.{answer_on, bytes_left, number_on}
use Rattle.receiving.proofs.Stored.{receiver-said, receiver-storable}

-- the link that bytes say can be stored
abbrev Good : List ℕ → Type 0
Good l = Storable (receiver_in l)

-- ---- an opening in the bytes is one on the link that they say

module _ (l : List ℕ) (q : Request) (g : Good l) where
  abbrev x : Receiver
  x = receiver_in l

  abbrev s : ℕ
  s = number_on l q

  accepted-storable : Accepts (answer_on l q) → Storable (receiver_after x s)
  accepted-storable a =
      let f = receiver_form x in
      let sized = (accepted-openable f encrypt (opener_of x) q.sealed q.room a).readable.sized in
      let fits : s < 256 ^ f.sequence = part-lt number_size f.sequence q.sealed q.bytes (omega arith) in
      let most = greatest-most x.width in
      record {
        formed = record { number = g.formed.number; ke = g.formed.ke; km = g.formed.km };
        highest = after-highest x.window s (256 ^ last_size) g.highest (omega arith);
        word = after-word x.window s g.word;
      }

  through : (a : Answer) → (Accepts a → Storable (receiver_after x s)) → let l' = if_done a (receiver_bytes (receiver_after x s)) l in
      (receiver_in l' ≡ receiver_as x.width (if_done a (accepting (opener_of x) s) (opener_of x))) × Good l'
  through (done vs) h = let e = receiver-said (receiver_after x s) (h refl) in (e, subst Storable (sym e) (h refl))
  through (refused n) h = (refl, g)

  moves : Moves bytes_left answer_on number_on (λ (b : List ℕ). (receiver_in b).window) Good l q
  moves =
      let t = through (answer_on l q) accepted-storable in
      let m = Opening.moves (receiver_form x) encrypt (opener_of x) q tt in
      let e = ap (λ (y : Receiver). y.window) t.0 in
      record { good = t.1; admitted = m.admitted; moved = λ a. e ∙ m.moved a; kept = λ a. e ∙ m.kept a }

-- ---- from one keying on

pub stored-window-tells : (link : List ℕ) (n wide : ℕ) (keys : List ℕ) → n < 256 ^ number_size → Bytes keys
    → Accepts (receiver_keying link keys) → (qs : List Request) → let l = keyed_receiver link n wide keys in
    Tells (receiver_in (state_after bytes_left l qs)).window (accepted_by bytes_left l answer_on number_on qs)
stored-window-tells link n wide keys h b a qs =
    let D = keying-done receiver_size receiver_keys link keys a in
    let x : Receiver = receiver_of n (told wide) keys in
    let S : Storable x = record { formed = keyed-formed n keys h D.1 b; highest = omega arith; word = omega arith } in
    let e : receiver_in (keyed_receiver link n wide keys) ≡ x = ap receiver_in (sym (if-done D.0 _ link)) ∙ receiver-said x S in
    History.window-tells _ _ _ _ _ moves _ (subst Storable (sym e) S) (ap (λ (y : Receiver). y.window) e) qs

pub stored-admits-exactly : (link : List ℕ) (n wide : ℕ) (keys : List ℕ) → n < 256 ^ number_size → Bytes keys
    → Accepts (receiver_keying link keys) → (qs : List Request) (s : ℕ) → let l = keyed_receiver link n wide keys in
    Admitted (receiver_in (state_after bytes_left l qs)).window s ↔ Eligible (accepted_by bytes_left l answer_on number_on qs) s
stored-admits-exactly link n wide keys h b a qs = History.admits-exactly _ _ (stored-window-tells link n wide keys h b a qs)

-- whatever the bytes of the link are
pub stored-refused-again : (link : List ℕ) → Bytes link → (q : Request) → Accepts (answer_on link q) → (qs : List Request) (p : Request)
    → let l = state_after bytes_left (bytes_left link q) qs in
    number_on l p ≡ number_on link q → Accepts (answer_on l p) → ⊥
stored-refused-again link b = History.never-again _ _ _ _ _ moves link (receiver-storable link b)
