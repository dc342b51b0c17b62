-- Opening accepts exactly the records that sealing makes for this link with a number that its window admits, and returns that message, past
-- which the output is as it was: of any form that a record can have, under any cipher that makes blocks of blocks. Assumes nothing.
use Rattle.prelude.proofs.{◌≡◌, refl, sym, ap, ap₂, ◌∙◌, subst, ◌↔◌, inl, true, List, [], ◌∷◌, ℕ, ◌^◌, ◌≤◌, ◌<◌, arith, length}
use Rattle.blocks.specs.Bytes.{Bytes, Block, MakesBlocks, part, put}
use Rattle.blocks.proofs.{Parts.part_length, Parts.part_bytes, Numbers.part-lt}
use Rattle.answers.specs.Answer.{done, refused, number_of, Accepts, FirstOf, Kept}
use Rattle.answers.proofs.First.{if-done, if-refused}
use Rattle.answers.proofs.First as First
use Rattle.answers.proofs.Output.{output-kept}
use Rattle.links.specs.Record.{Proper, longest, form_of, added, record_size, number_size, head_size, usable, record_of}
use Rattle.links.specs.Record.{link_in, sequence_in, text_in, tag_in}
use Rattle.links.specs.declared.Form.{Form}
use Rattle.links.specs.declared.Width.{Width}
use Rattle.links.proofs.{Record.record-made, Widths.proper, Widths.keyed-usable, Widths.usable-exactly}
use Rattle.plain.specs.Plain.{crypted, tag_of, plain_record}
use Rattle.plain.proofs.Sealed.{crypted-length, crypted-bytes, crypted-twice, plain-length, plain-link, plain-sequence, plain-text}
use Rattle.plain.proofs.Sealed.{plain-tag}
use Rattle.window.specs.Window.{Admitted}
use Rattle.window.proofs.Admits.{after-highest}
use Rattle.opening.specs.Opener.{Opener, receiver_keys, keyed_opener, accepting}
use Rattle.opening.specs.Open.{open_answer, open_causes, open_link, open_output, message_in, message_size, right_tag}
use Rattle.opening.specs.Exactly.{Formed, Opens, Sealed}
use Rattle.opening.proofs.Openable.{Openable, openable-done, accepted-openable, accepted-done}

module _ (f : Form) (P : Proper f) (C : List ℕ → List ℕ → List ℕ) (M : (k : List ℕ) → Block k → MakesBlocks (C k)) (x : Opener)
    (F : Formed x) where
  -- CTR's block function and CMAC's
  abbrev E : List ℕ → List ℕ
  E = C x.ke

  abbrev D : List ℕ → List ℕ
  D = C x.km

  e-makes : MakesBlocks E
  e-makes = M x.ke F.ke

  d-makes : MakesBlocks D
  d-makes = M x.km F.km

  message-length : (r : List ℕ) → added f ≤ length r → length (message_in f C x r) ≡ message_size f r
  message-length r h =
      crypted-length E e-makes x.number (sequence_in f r) (text_in f r) ∙ part_length (head_size f) (message_size f r) r (omega arith)

  -- ---- from an accepted opening to the sealing

  openable-sealed : (r : List ℕ) → Bytes r → (o : ℕ) → Openable f C x r o → Sealed f C x r (message_in f C x r) (sequence_in f r)
  unfolding plain_record
  openable-sealed r b o O =
      let s : ℕ = sequence_in f r in
      let n : ℕ = x.number in
      let sized = O.readable.sized in
      let text : crypted E n s (message_in f C x r) ≡ text_in f r = crypted-twice E e-makes n s (text_in f r) in
      let l = message-length r sized.low in
      record {
        size = omega arith;
        bytes = crypted-bytes E e-makes n s (text_in f r) (part_bytes (head_size f) (message_size f r) r b);
        admitted = O.admitted;
        fits = part-lt number_size f.sequence r b (omega arith);
        made =
            sym (record-made f r b sized.low)
            ∙ ap₂ (λ (k : ℕ) (t : List ℕ). record_of f k s (text_in f r) t) O.readable.link (sym O.tagged)
            ∙ ap (λ (c : List ℕ). record_of f n s c (tag_of f D n s c)) (sym text);
      }

  -- ---- and back: the fields of a sealed record, and no cause to refuse it

  module _ (r m : List ℕ) (s : ℕ) (S : Sealed f C x r m s) where
    long : length r ≡ record_size f (length m)
    long = ap length S.made ∙ plain-length f P E D e-makes d-makes x.number s m S.bytes

    link : link_in r ≡ x.number
    link = ap (λ (z : List ℕ). link_in z) S.made ∙ plain-link f P E D e-makes d-makes x.number s m S.bytes F.number

    sequence : sequence_in f r ≡ s
    sequence = ap (λ (z : List ℕ). sequence_in f z) S.made ∙ plain-sequence f P E D e-makes d-makes x.number s m S.bytes S.fits

    text : text_in f r ≡ crypted E x.number s m
    text = ap (λ (z : List ℕ). text_in f z) S.made ∙ plain-text f P E D e-makes d-makes x.number s m S.bytes

    tag : right_tag f C x r ≡ tag_in f r
    tag =
        ap₂ (λ (k : ℕ) (c : List ℕ). tag_of f D x.number k c) sequence text
        ∙ sym (ap (λ (z : List ℕ). tag_in f z) S.made ∙ plain-tag f P E D e-makes d-makes x.number s m S.bytes)

    message : message_in f C x r ≡ m
    message = ap₂ (λ (k : ℕ) (c : List ℕ). crypted E x.number k c) sequence text ∙ crypted-twice E e-makes x.number s m

    sealed-openable : (o : ℕ) → usable f x.keyed x.window.highest ≡ true → length r ≤ record_size f o → Openable f C x r o
    sealed-openable o keyed room =
        let l = long in
        record {
          readable = record { keyed = keyed; sized = record { low = omega arith; high = omega (arith, S.size) }; link = link };
          room = omega arith;
          admitted = subst (λ (t : ℕ). Admitted x.window t) (sym sequence) S.admitted;
          tagged = tag;
        }

  -- ---- accepted exactly

  -- opening accepts, whatever values it returns, exactly where the link counts as keyed, the output has room for the message, and the
  -- record is one that sealing makes for this link with a number that its window admits
  pub accepts-exactly : (r o : List ℕ) → Bytes r → Accepts (open_answer f C x r (length o))
      ↔ ((usable f x.keyed x.window.highest ≡ true) × (length r ≤ record_size f (length o))
      × ((m : List ℕ) × (s : ℕ) × Sealed f C x r m s))
  accepts-exactly r o b = (
    (λ a.
        let O = accepted-openable f C x r (length o) a in
        let room = O.room in
        (O.readable.keyed, omega arith, (message_in f C x r, sequence_in f r, openable-sealed r b (length o) O))),
    (λ S. ap number_of (openable-done f C x r (length o) (sealed-openable r S.2.0 S.2.1 S.2.2 (length o) S.0 S.1))),
  )

  -- and then the values, the message written and the link are those of that message and number
  pub opened-exactly : (r o m : List ℕ) (s : ℕ) → usable f x.keyed x.window.highest ≡ true → length r ≤ record_size f (length o)
      → Sealed f C x r m s → Opens f C x r o m (accepting x s)
  opened-exactly r o m s keyed room S =
      let l = long r m s S in
      let size : message_size f r ≡ length m = omega arith in
      let answer = openable-done f C x r (length o) (sealed-openable r m s S (length o) keyed room) in
      record {
        answer = answer ∙ ap (λ (n : ℕ). done (n ∷ [])) size;
        link = sym (if-done answer (accepting x (sequence_in f r)) x) ∙ ap (accepting x) (sequence r m s S);
        out = sym (if-done answer (put 0 (message_in f C x r) o) o) ∙ ap (λ (z : List ℕ). put 0 z o) (message r m s S);
      }

  -- past the message the output is as it was
  pub opened-kept : (r o : List ℕ) → Accepts (open_answer f C x r (length o)) → Kept (message_size f r) o (open_output f C x r o)
  opened-kept r o a =
      let O = accepted-openable f C x r (length o) a in
      output-kept (accepted-done f C x r (length o) a) (message_in f C x r) o _ (message-length r O.readable.sized.low) O.room

  -- the link that is left counts as keyed as well
  pub accepting-usable : (r m : List ℕ) (s : ℕ) → usable f x.keyed x.window.highest ≡ true → Sealed f C x r m s
      → usable f (accepting x s).keyed (accepting x s).window.highest ≡ true
  accepting-usable r m s keyed S =
      let u = (usable-exactly f x.keyed x.window.highest).0 keyed in
      let fits = S.fits in
      let h : (accepting x s).window.highest < 256 ^ f.sequence =
      after-highest x.window s (256 ^ f.sequence) (omega (arith, u.1)) fits in
      (usable-exactly f x.keyed (accepting x s).window.highest).1 (u.0, omega arith)

  -- the message and the number are the record's alone
  pub sealed-once : (r m m' : List ℕ) (s s' : ℕ) → Sealed f C x r m s → Sealed f C x r m' s' → (m ≡ m') × (s ≡ s')
  sealed-once r m m' s s' S S' = (sym (message r m s S) ∙ message r m' s' S', sym (sequence r m s S) ∙ sequence r m' s' S')

module _ (f : Form) (C : List ℕ → List ℕ → List ℕ) (x : Opener) where
  -- ---- each refusal number has exactly its cause, in their order

  pub refused-exactly : (r : List ℕ) (o n : ℕ) → open_answer f C x r o ≡ refused n ↔ FirstOf n (open_causes f C x r o)
  unfolding open_answer
  refused-exactly r o n = First.refused-exactly n (open_causes f C x r o) _

  -- a refusal leaves the link and every lent byte as they came
  pub refused-unchanged : (r o : List ℕ) (n : ℕ) → open_answer f C x r (length o) ≡ refused n
      → (open_link f C x r (length o) ≡ x) × (open_output f C x r o ≡ o)
  refused-unchanged r o n e = (sym (if-refused e (accepting x (sequence_in f r)) x), sym (if-refused e (put 0 (message_in f C x r) o) o))

-- ---- links hold what they can, and the keys that they were given

-- keying with 32 bytes makes such a link
pub keyed-formed : (n : ℕ) (keys : List ℕ) → n < 256 ^ number_size → length keys ≡ receiver_keys → Bytes keys → Formed (keyed_opener n keys)
keyed-formed n keys h e b = record {
  number = h;
  ke = record { size = part_length 0 16 keys (omega arith); bytes = part_bytes 0 16 keys b };
  km = record { size = part_length 16 16 keys (omega arith); bytes = part_bytes 16 16 keys b };
}

-- what plain sealing makes under 32 bytes of keys, a link of the same width opens that was keyed with these
pub keyed-opens : (w : Width) (C : List ℕ → List ℕ → List ℕ) → ((k : List ℕ) → Block k → MakesBlocks (C k))
    → (n s : ℕ) (keys m o : List ℕ) → n < 256 ^ number_size → length keys ≡ receiver_keys → Bytes keys
    → 0 < s → s < 256 ^ (form_of w).sequence → Bytes m → length m ≤ longest → length m ≤ length o
    → Opens (form_of w) C (keyed_opener n keys) (plain_record (form_of w) (C (part 0 16 keys)) (C (part 16 16 keys)) n s m) o m
    (accepting (keyed_opener n keys) s)
keyed-opens w C M n s keys m o h e b above fits bm size room =
    let F = keyed-formed n keys h e b in
    let l = plain-length (form_of w) (proper w) _ _ (M _ F.ke) (M _ F.km) n s m bm in
    opened-exactly (form_of w) (proper w) C M (keyed_opener n keys) F _ o m s (keyed-usable w) (omega arith)
    (record { size = size; bytes = bm; admitted = (above, inl above); fits = fits; made = refl })
