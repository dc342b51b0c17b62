-- A record says its fields, and a string of bytes that is long enough is the record of its fields; counter blocks. Assumes nothing.
use Rattle.prelude.proofs.{◌≡◌, refl, sym, ap, ap₂, ◌∙◌, List, ◌++◌, append_assoc, ℕ, ◌+◌, ◌-◌, ◌^◌, ◌≤◌, ◌<◌, arith, length, take, drop}
use Rattle.prelude.proofs.{length-append, take-append-drop, replicate, take_at, drop_at, drop-drop, take-add}
use Rattle.blocks.specs.Bytes.{Bytes, Block, big_endian, value}
use Rattle.blocks.proofs.Xor.{bytes-append}
use Rattle.blocks.proofs.Numbers.{big_endian-length, big_endian-bytes, big_endian-says, big_endian-part, big_endian-narrow}
use Rattle.links.specs.Record.{number_size, index_size, sequence_most, head_size, added, record_size, counter_block, head_of, record_of}
use Rattle.links.specs.declared.Form.{Form}
use Rattle.links.specs.Record.{link_in, sequence_in, text_in, tag_in}

-- ---- counter blocks

pub counter-block : (n s i : ℕ) → Block (counter_block n s i)
unfolding counter_block
counter-block n s i = record {
  size = simp (length-append, big_endian-length);
  bytes =
      bytes-append (big_endian number_size n) (big_endian sequence_most s ++ big_endian index_size i) (big_endian-bytes number_size n)
      (bytes-append (big_endian sequence_most s) (big_endian index_size i) (big_endian-bytes sequence_most s) (big_endian-bytes index_size i));
}

-- with a sequence number of four bytes, four zeros stand before it
pub counter-narrow : (n s i : ℕ) → s < 256 ^ 4 → counter_block n s i ≡ big_endian 4 n ++ (replicate 4 0 ++ (big_endian 4 s ++ big_endian 4 i))
unfolding counter_block
counter-narrow n s i h =
    ap (λ (z : List ℕ). big_endian 4 n ++ (z ++ big_endian 4 i)) (big_endian-narrow 4 4 s h)
    ∙ ap (λ (z : List ℕ). big_endian 4 n ++ z) (append_assoc (replicate 4 0) (big_endian 4 s) (big_endian 4 i))

-- ---- what the fields of a record say

pub head-length : (f : Form) (n s : ℕ) → length (head_of f n s) ≡ head_size f
head-length f n s = simp (length-append, big_endian-length)

module _ (f : Form) (n s : ℕ) (text tag : List ℕ) where
  after-head : drop (head_size f) (record_of f n s text tag) ≡ text ++ tag
  unfolding record_of
  after-head = drop_at (head_of f n s) (text ++ tag) (head_size f) (head-length f n s)

  -- the link number, and the rest
  apart : record_of f n s text tag ≡ big_endian number_size n ++ (big_endian f.sequence s ++ (text ++ tag))
  unfolding record_of
  apart = append_assoc (big_endian number_size n) (big_endian f.sequence s) (text ++ tag)

  pub record-length : length tag ≡ f.tag → length (record_of f n s text tag) ≡ record_size f (length text)
  unfolding record_of
  record-length h = simp (length-append, big_endian-length) (omega arith)

  pub link-in : n < 256 ^ number_size → link_in (record_of f n s text tag) ≡ n
  link-in h =
      ap (λ (r : List ℕ). link_in r) apart
      ∙ ap value (take_at (big_endian number_size n) _ number_size (big_endian-length number_size n)) ∙ big_endian-says number_size n h

  pub sequence-in : s < 256 ^ f.sequence → sequence_in f (record_of f n s text tag) ≡ s
  sequence-in h =
      ap (λ (r : List ℕ). sequence_in f r) apart
      ∙ ap (λ (l : List ℕ). value (take f.sequence l)) (drop_at (big_endian number_size n) _ number_size (big_endian-length number_size n))
      ∙ ap value (take_at (big_endian f.sequence s) _ f.sequence (big_endian-length f.sequence s)) ∙ big_endian-says f.sequence s h

  pub text_in_lem : length tag ≡ f.tag → text_in f (record_of f n s text tag) ≡ text
  text_in_lem h =
      let l = record-length h in
      let e : length text ≡ length (record_of f n s text tag) - added f = omega arith in
      ap (take (length (record_of f n s text tag) - added f)) after-head ∙ take_at text tag _ e

  pub tag_in_lem : length tag ≡ f.tag → tag_in f (record_of f n s text tag) ≡ tag
  tag_in_lem h =
      let l = record-length h in
      let e : length (record_of f n s text tag) - f.tag ≡ head_size f + length text = omega arith in
      ap (λ (k : ℕ). drop k (record_of f n s text tag)) e
      ∙ sym (drop-drop (length text) (head_size f) (record_of f n s text tag))
      ∙ ap (drop (length text)) after-head ∙ drop_at text tag (length text) refl

-- ---- bytes as a record

pub record-made : (f : Form) (r : List ℕ) → Bytes r → added f ≤ length r
    → record_of f (link_in r) (sequence_in f r) (text_in f r) (tag_in f r) ≡ r
unfolding record_of
record-made f r b h =
    let n : ℕ = length r - added f in
    let e : length r - f.tag ≡ head_size f + n = omega arith in
    let head : head_of f (link_in r) (sequence_in f r) ≡ take (head_size f) r =
    ap₂ ◌++◌ (big_endian-part 0 number_size r b (omega arith)) (big_endian-part number_size f.sequence r b (omega arith))
    ∙ sym (take-add number_size f.sequence r) in
    ap₂ (λ (x y : List ℕ). x ++ (text_in f r ++ y)) head (ap (λ (k : ℕ). drop k r) e ∙ sym (drop-drop n (head_size f) r))
    ∙ ap (λ (z : List ℕ). take (head_size f) r ++ z) (take-append-drop n (drop (head_size f) r))
    ∙ take-append-drop (head_size f) r
