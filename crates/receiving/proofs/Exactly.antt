-- Opening on a stored link accepts exactly the records that sealing makes for it with an admitted number; a refusal changes no byte; when
-- the link is not keyed. Assumes nothing.
use Rattle.prelude.proofs.{◌≡◌, refl, sym, ap, ◌∙◌, ◌↔◌, Iff-trans, true, List, ℕ, ◌≤◌, length, drop}
use Rattle.blocks.specs.Bytes.{Bytes, Block, MakesBlocks, put}
use Rattle.answers.specs.Answer.{refused, Accepts, Kept}
use Rattle.answers.proofs.First.{refused-here, if-done, if-refused, fails-exactly}
use Rattle.baksheesh.specs.Baksheesh.{encrypt}
use Rattle.baksheesh.proofs.Inverse.{encrypt-block}
use Rattle.links.specs.{Record.record_size, Record.usable, declared.Form.Form}
use Rattle.links.proofs.Widths.{proper}
use Rattle.layout.specs.Keyed.{SaysKeyed}
use Rattle.opening.specs.{Opener.Opener, Open.message_size, Open.open_causes, Open.open_answer, Exactly.Sealed}
use Rattle.opening.proofs.Exactly as Exactly
use Rattle.receiver.specs.Receivers.{opener_of, receiver_as, receiver_form, receiver_after}
use Rattle.receiver.specs.declared.Receiver.{Receiver}
use Rattle.receiving.specs.Stored.{receiver_in, receiver_bytes}
use Rattle.receiving.specs.Calls.{receiver_keying, keyed_receiver, opened_answer, opened_link, opened_output}
use Rattle.receiving.proofs.Stored.{receiver-storable, receiver-keyed-exactly}

makes : (k : List ℕ) → Block k → MakesBlocks (encrypt k)
makes k p b w = encrypt-block k b p w

module _ (link : List ℕ) (b : Bytes link) where
  -- the link that the bytes say, and the form of its records
  abbrev x : Receiver
  x = receiver_in link

  abbrev f : Form
  f = receiver_form x

  -- 0 is returned exactly where the bytes say a link that counts as keyed, the output has room for the message, and the record is one that
  -- sealing makes for this link with a number that its window admits
  pub stored-accepts-exactly : (r o : List ℕ) → Bytes r → Accepts (opened_answer link r (length o))
      ↔ ((usable f x.keyed x.window.highest ≡ true) × (length r ≤ record_size f (length o))
      × ((m : List ℕ) × (s : ℕ) × Sealed f encrypt (opener_of x) r m s))
  stored-accepts-exactly = Exactly.accepts-exactly f (proper x.width) encrypt makes (opener_of x) (receiver-storable link b).formed

  -- and then the message is written, and the link's bytes are those of the link whose window has that number
  pub stored-opened-exactly : (r o m : List ℕ) (s : ℕ) → usable f x.keyed x.window.highest ≡ true
      → length r ≤ record_size f (length o) → Sealed f encrypt (opener_of x) r m s
      → (opened_output link r o ≡ put 0 m o) × (opened_link link r (length o) ≡ receiver_bytes (receiver_after x s))
  stored-opened-exactly r o m s keyed room S =
      let F = (receiver-storable link b).formed in
      let O = Exactly.opened-exactly f (proper x.width) encrypt makes (opener_of x) F r o m s keyed room S in
      let e = if-done O.answer _ (opener_of x) ∙ O.link in
      (O.out, sym (if-done O.answer _ link) ∙ ap (λ (y : Opener). receiver_bytes (receiver_as x.width y)) e)

  -- past the message the output is as it was
  pub stored-opened-kept : (r o : List ℕ) → Accepts (opened_answer link r (length o)) → Kept (message_size f r) o (opened_output link r o)
  stored-opened-kept = Exactly.opened-kept f (proper x.width) encrypt makes (opener_of x) (receiver-storable link b).formed

-- ---- opening refuses under 20 exactly where the bytes do not say a link that counts as keyed

pub open-unkeyed-exactly : (link r : List ℕ) (o : ℕ) → Bytes link → opened_answer link r o ≡ refused 20 ↔ (SaysKeyed 54 53 link → ⊥)
unfolding open_answer
open-unkeyed-exactly link r o b =
    let x = receiver_in link in
    Iff-trans (refused-here 20 _ (drop 1 (open_causes (receiver_form x) encrypt (opener_of x) r o)) _ refl)
    (fails-exactly _ (receiver-keyed-exactly link b))

-- ---- a refusal changes no byte

pub open-unchanged : (link r o : List ℕ) (n : ℕ) → opened_answer link r (length o) ≡ refused n
    → (opened_link link r (length o) ≡ link) × (opened_output link r o ≡ o)
open-unchanged link r o n e = (sym (if-refused e _ link), (Exactly.refused-unchanged _ encrypt (opener_of (receiver_in link)) r o n e).1)

pub receiver-unchanged : (link : List ℕ) (number wide : ℕ) (keys : List ℕ) (n : ℕ) → receiver_keying link keys ≡ refused n
    → keyed_receiver link number wide keys ≡ link
receiver-unchanged link number wide keys n e = sym (if-refused e _ link)
