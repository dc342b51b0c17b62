-- A link of any kind, by the bytes of each of its two keys and of the word before its width: its bytes say that link, bytes of its size
-- whose flag and width are 0 or 1 are those of the link that they say, and what bytes say can be stored. Assumes nothing.
use Rattle.prelude.proofs.{◌≡◌, refl, sym, ap, ap₂, ◌∙◌, Bool, true, cond, List, [], ◌∷◌, ◌++◌, ℕ, ◌+◌, ◌^◌, ◌≤◌, ◌<◌, arith}
use Rattle.prelude.proofs.{length, take, drop, get_or, length-append, length-replicate, take_at, drop-drop, take-append-drop}
use Rattle.prelude.proofs.{get_or-drop, get_or-append-add, one-le-pow}
use Rattle.blocks.specs.Bytes.{Bytes, big_endian, value, part}
use Rattle.blocks.proofs.{Xor.bytes-replicate, Parts.part_length, Parts.part_bytes}
use Rattle.blocks.proofs.Numbers.{part-lt, big_endian-length, big_endian-says, big_endian-part}
use Rattle.answers.proofs.First.{either}
use Rattle.links.specs.{Record.number_size, Record.told}
use Rattle.layout.specs.Layout.{last_size, number_at, last_at, keys_at, width_byte, width_in, sound}
use Rattle.layout.specs.Kind.{word_at, width_at, size, fields_at, fresh_fields, bytes_of, link_in}
use Rattle.layout.specs.declared.Fields.{Fields}
use Rattle.layout.proofs.LinkBytes.{bytes-say, bytes-said, width_read, width-byte, width-written, last_byte, sound-size}
use Rattle.layout.proofs.LinkBytes.{is-sound}

-- with keys of k bytes and a word of t
module _ (k t : ℕ) where
  -- a link that bytes can say
  pub record Fits (x : Fields k) : Type 0 where
    pub number : x.number < 256 ^ number_size
    pub last : x.last < 256 ^ last_size
    pub word : x.word < 256 ^ t
    pub ke : length x.ke ≡ k
    pub km : length x.km ≡ k

  -- the bytes of a link can say one, and say that one
  link-said : (x : Fields k) → Fits x → (sound (size k t) (width_at k t) (bytes_of t x) ≡ true) × (x ≡ fields_at k t (bytes_of t x))
  link-said x F =
      let b : List ℕ = bytes_of t x in
      let word : List ℕ = big_endian t x.word in
      let last : List ℕ = width_byte x.width ∷ [] in
      let l = big_endian-length t x.word in
      let n = length-append word last in
      let s = bytes-say k k x.keyed x.number x.last x.ke x.km (word ++ last) F.number F.last F.ke F.km in
      let z : length b ≡ size k t = let e = s.size in omega arith in
      let accepted : value (part (word_at k) t b) ≡ x.word =
      ap (λ (y : List ℕ). value (take t y)) (sym s.tail) ∙ ap value (take_at word last t l) ∙ big_endian-says t x.word F.word in
      let byte : get_or b (width_at k t) 0 ≡ width_byte x.width =
      sym (get_or-drop (word_at k) b t 0) ∙ ap (λ (y : List ℕ). get_or y t 0) (sym s.tail)
      ∙ ap (λ (i : ℕ). get_or (word ++ last) i 0) (omega arith) ∙ get_or-append-add word last 0 0 in
      let w = width-byte x.width in (
        is-sound (size k t) (width_at k t) b z (omega arith),
        λ i. record {
          keyed = s.keyed i;
          number = s.number i;
          last = s.last i;
          word = sym accepted i;
          width = sym (ap told byte ∙ width_read x.width) i;
          ke = s.ke i;
          km = s.km i;
        },
      )

  -- bytes are those of the link that they say
  link-bytes : (b : List ℕ) → Bytes b → length b ≡ size k t → get_or b 0 0 ≤ 1 → get_or b (width_at k t) 0 ≤ 1
      → bytes_of t (fields_at k t b) ≡ b
  link-bytes b h s f w =
      let l = big_endian-length t (value (part (word_at k) t b)) in
      let n = length-append (big_endian t (value (part (word_at k) t b))) (width_byte (width_in (width_at k t) b) ∷ []) in
      bytes-said k k b h f _ _ _ _ _ _
      (record {
        size = omega arith;
        keyed = refl;
        number = refl;
        last = refl;
        ke = refl;
        km = refl;
        tail =
            ap₂ (λ (x : List ℕ) (y : ℕ). x ++ (y ∷ [])) (big_endian-part (word_at k) t b h (omega arith)) (width-written (get_or b (width_at k t) 0) w)
            ∙ ap (λ (z : List ℕ). part (word_at k) t b ++ z) (last_byte b (width_at k t) (omega arith) ∙ sym (drop-drop t (word_at k) b))
            ∙ take-append-drop t (drop (word_at k) b);
      })

  -- bytes can say the link that they say, and a fresh one
  at-fits : (b : List ℕ) → Bytes b → length b ≡ size k t → Fits (fields_at k t b)
  at-fits b h s = record {
    number = part-lt number_at number_size b h (omega arith);
    last = part-lt last_at last_size b h (omega arith);
    word = part-lt (word_at k) t b h (omega arith);
    ke = part_length (keys_at + 0) k b (omega arith);
    km = part_length (keys_at + k) k b (omega arith);
  }

  fresh-fits : Fits (fresh_fields k)
  fresh-fits = record {
    number = omega arith;
    last = omega arith;
    word = one-le-pow t 256 (omega arith);
    ke = length-replicate {A = ℕ} k 0;
    km = length-replicate {A = ℕ} k 0;
  }

  -- a kind's own links: what one holds, and the link that holds it; bytes that can say none say a fresh one
  module _ {A : Type 0} (held : A → Fields k) (holding : Fields k → A) where
    -- stored and read
    pub said : (x : A) → Fits (held x) → holding (held x) ≡ x → link_in k t holding (bytes_of t (held x)) ≡ x
    said x F e =
        let s = link-said (held x) F in
        ap (λ (c : Bool). cond c (holding (fields_at k t (bytes_of t (held x)))) (holding (fresh_fields k))) s.0 ∙ ap holding (sym s.1) ∙ e

    -- read and stored
    pub stored : (b : List ℕ) → Bytes b → length b ≡ size k t → get_or b 0 0 ≤ 1 → get_or b (width_at k t) 0 ≤ 1
        → held (holding (fields_at k t b)) ≡ fields_at k t b → bytes_of t (held (link_in k t holding b)) ≡ b
    stored b h s f w e =
        ap (λ (c : Bool). bytes_of t (held (cond c (holding (fields_at k t b)) (holding (fresh_fields k))))) (is-sound (size k t) (width_at k t) b s (omega arith))
        ∙ ap (bytes_of t) e ∙ link-bytes b h s f w

    -- what holds of every link that bytes can say holds of the one that they say
    pub of-said : (P : A → Type 0) → ((l : Fields k) → Fits l → Bytes l.ke → Bytes l.km → P (holding l))
        → (b : List ℕ) → Bytes b → P (link_in k t holding b)
    of-said P f b h =
        either P (sound (size k t) (width_at k t) b)
        (λ e. f (fields_at k t b) (at-fits b h (sound-size (size k t) (width_at k t) b e)) (part_bytes (keys_at + 0) k b h) (part_bytes (keys_at + k) k b h))
        (λ _. f (fresh_fields k) fresh-fits (bytes-replicate k) (bytes-replicate k))
