-- A link of any kind, by the bytes of each of its two keys and of the word before its width. Assumes nothing.
use Rattle.std.specs.Prelude.{true, false, cond, List, [], ◌∷◌, ◌++◌, ℕ, ◌+◌, replicate}
use Rattle.blocks.specs.Bytes.{big_endian, value, part}
use Rattle.links.specs.declared.Width.{Width}
use Rattle.links.specs.declared.Width.TheVariants.{Narrow}
use Rattle.layout.specs.Layout.{keys_at, link_size, link_bytes, keyed_in, number_in, last_in, keys_in, width_byte, width_in, sound}
use Rattle.layout.specs.declared.Fields.{Fields}

-- with keys of k bytes and a word of t: where the word and the width stand, and the bytes of a link
abbrev pub word_at : ℕ → ℕ
word_at k = keys_at + (k + k)

abbrev pub width_at : ℕ → ℕ → ℕ
width_at k t = word_at k + t

abbrev pub size : ℕ → ℕ → ℕ
size k t = link_size (k + k) (t + 1)

-- what bytes say that a link holds; what a fresh one holds, and one with the number n and the width w, keyed with the given bytes
abbrev pub fields_at : (k t : ℕ) → List ℕ → Fields k
fields_at k t b = record {
  keyed = keyed_in b;
  number = number_in b;
  last = last_in b;
  word = value (part (word_at k) t b);
  width = width_in (width_at k t) b;
  ke = keys_in 0 k b;
  km = keys_in k k b;
}

abbrev pub fresh_fields : (k : ℕ) → Fields k
fresh_fields k = record { keyed = false; number = 0; last = 0; word = 0; width = Narrow; ke = replicate k 0; km = replicate k 0 }

abbrev pub keyed_fields : (k n : ℕ) → Width → List ℕ → Fields k
keyed_fields k n w keys =
    record { keyed = true; number = n; last = 0; word = 0; width = w; ke = part 0 k keys; km = part k k keys }

-- the bytes that say a link
abbrev pub bytes_of : {k : ℕ} → ℕ → Fields k → List ℕ
bytes_of t x = link_bytes x.keyed x.number x.last x.ke x.km (big_endian t x.word ++ (width_byte x.width ∷ []))

-- of a kind whose links are of type A, each made of what it holds: the link that bytes say; bytes that can say none say a fresh one
abbrev pub link_in : {A : Type 0} (k t : ℕ) → (Fields k → A) → List ℕ → A
link_in k t holding b = cond (sound (size k t) (width_at k t) b) (holding (fields_at k t b)) (holding (fresh_fields k))
