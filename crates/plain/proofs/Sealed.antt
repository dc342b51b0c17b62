-- What a record of plain sealing holds: of any form that a record can have, over any functions that make blocks of blocks. Past it the
-- output is as it was. Assumes nothing.
use Rattle.prelude.proofs.{◌≡◌, sym, ap, ◌∙◌, List, ℕ, ◌+◌, ◌^◌, ◌≤◌, ◌<◌, arith, length, length-take-le}
use Rattle.blocks.specs.Bytes.{Bytes, Block, MakesBlocks, part}
use Rattle.blocks.proofs.{Xor.bytes-append, Parts.part_length, Parts.part_bytes}
use Rattle.answers.specs.Answer.{Accepts, Kept}
use Rattle.answers.proofs.{First.accepts-none, Output.output-kept}
use Rattle.modes.proofs.{Ctr.ctr-length, Ctr.ctr-bytes, Ctr.ctr-ctr, Cmac.cmac-block}
use Rattle.links.specs.Record.{Proper, number_size, record_size, counter_block, link_in, sequence_in, text_in, tag_in}
use Rattle.links.specs.declared.Form.{Form}
use Rattle.links.proofs.Record.{counter-block, record-length, link-in, sequence-in, text_in_lem, tag_in_lem}
use Rattle.plain.specs.Plain.{crypted, authenticated, mac_of, tag_of, plain_record}
use Rattle.plain.specs.Entry.{plain_causes, plain_answer, plain_output}
use Rattle.plain.proofs.Answers.{plain_done, plain-sealable}

-- ---- the ciphertext

module _ (E : List ℕ → List ℕ) (p : MakesBlocks E) (n s : ℕ) where
  outputs : (j : ℕ) → Block (E (counter_block n s j))
  outputs j = p (counter_block n s j) (counter-block n s j)

  pub crypted-length : (m : List ℕ) → length (crypted E n s m) ≡ length m
  crypted-length m = ctr-length E (counter_block n s) m (λ j h. (outputs j).size)

  pub crypted-bytes : (m : List ℕ) → Bytes m → Bytes (crypted E n s m)
  crypted-bytes = ctr-bytes E (counter_block n s) outputs

  -- the message of the ciphertext is the message
  pub crypted-twice : (m : List ℕ) → crypted E n s (crypted E n s m) ≡ m
  crypted-twice = ctr-ctr E (counter_block n s) outputs

-- ---- its code and its tag

module _ (D : List ℕ → List ℕ) (q : MakesBlocks D) (n s : ℕ) (text : List ℕ) (b : Bytes text) where
  pub mac-block : Block (mac_of D n s text)
  mac-block = cmac-block D q (authenticated n s text) (bytes-append (counter_block n s 0) text (counter-block n s 0).bytes b)

  pub tag-length : (f : Form) → Proper f → length (tag_of f D n s text) ≡ f.tag
  tag-length f P = let w = mac-block in length-take-le f.tag (mac_of D n s text) (omega arith)

-- ---- the fields of the record of the message m

module _ (f : Form) (P : Proper f) (E D : List ℕ → List ℕ) (p : MakesBlocks E) (q : MakesBlocks D) (n s : ℕ) (m : List ℕ)
    (b : Bytes m) where
  tag-size : length (tag_of f D n s (crypted E n s m)) ≡ f.tag
  tag-size = tag-length D q n s (crypted E n s m) (crypted-bytes E p n s m b) f P

  pub plain-length : length (plain_record f E D n s m) ≡ record_size f (length m)
  unfolding plain_record
  plain-length = record-length f n s (crypted E n s m) _ tag-size ∙ ap (λ (k : ℕ). record_size f k) (crypted-length E p n s m)

  pub plain-link : n < 256 ^ number_size → link_in (plain_record f E D n s m) ≡ n
  unfolding plain_record
  plain-link = link-in f n s (crypted E n s m) _

  pub plain-sequence : s < 256 ^ f.sequence → sequence_in f (plain_record f E D n s m) ≡ s
  unfolding plain_record
  plain-sequence = sequence-in f n s (crypted E n s m) _

  pub plain-text : text_in f (plain_record f E D n s m) ≡ crypted E n s m
  unfolding plain_record
  plain-text = text_in_lem f n s (crypted E n s m) _ tag-size

  pub plain-tag : tag_in f (plain_record f E D n s m) ≡ tag_of f D n s (crypted E n s m)
  unfolding plain_record
  plain-tag = tag_in_lem f n s (crypted E n s m) _ tag-size

-- records differ where the link number, the sequence number or the message do
pub plain-injective : (f : Form) → Proper f → (E D : List ℕ → List ℕ) → MakesBlocks E → MakesBlocks D → (n n' s s' : ℕ) (m m' : List ℕ)
    → n < 256 ^ number_size → n' < 256 ^ number_size → s < 256 ^ f.sequence → s' < 256 ^ f.sequence → Bytes m → Bytes m'
    → plain_record f E D n s m ≡ plain_record f E D n' s' m' → (n ≡ n') × (s ≡ s') × (m ≡ m')
plain-injective f P E D p q n n' s s' m m' hn hn' hs hs' b b' e =
    let en : n ≡ n' = sym (plain-link f P E D p q n s m b hn) ∙ ap (λ (r : List ℕ). link_in r) e ∙ plain-link f P E D p q n' s' m' b' hn' in
    let es : s ≡ s' =
    sym (plain-sequence f P E D p q n s m b hs) ∙ ap (λ (r : List ℕ). sequence_in f r) e ∙ plain-sequence f P E D p q n' s' m' b' hs' in
    let text : crypted E n s m ≡ crypted E n' s' m' =
    sym (plain-text f P E D p q n s m b) ∙ ap (λ (r : List ℕ). text_in f r) e ∙ plain-text f P E D p q n' s' m' b' in
    (en, es, sym (crypted-twice E p n s m) ∙ (λ i. crypted E (en i) (es i) (text i)) ∙ crypted-twice E p n' s' m')

-- ---- accepted, past the record the output is as it was

pub plain-kept : (f : Form) → Proper f → (C : List ℕ → List ℕ → List ℕ) → ((k : List ℕ) → Block k → MakesBlocks (C k))
    → (keys : List ℕ) (n s : ℕ) (m o : List ℕ) → Bytes keys → Bytes m → Accepts (plain_answer f keys s m (length o))
    → Kept (record_size f (length m)) o (plain_output f C keys n s m o)
unfolding plain_answer
plain-kept f P C M keys n s m o bk b a =
    let none = accepts-none (plain_causes f keys s m (length o)) _ tt a in
    let S = plain-sealable f keys s m (length o) none in
    let size = S.keyed in
    let key : (p : ℕ) → p + 16 ≤ length keys → Block (part p 16 keys) =
    λ p h. record { size = part_length p 16 keys h; bytes = part_bytes p 16 keys bk } in
    output-kept (plain_done f keys s m (length o) none) _ o _
    (plain-length f P _ _ (M _ (key 0 (omega arith))) (M _ (key 16 (omega arith))) n s m b)
    S.room
