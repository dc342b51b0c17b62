-- The length of a hexadecimal text, and a loop that writes the digits of a byte a turn. Assumes nothing.
use Rattle.prelude.proofs.{◌≡◌, refl, ap, sym, ◌∙◌, List, [], ◌∷◌, ◌++◌, ℕ, ◌+◌, ◌*◌, ◌/◌, ◌%◌, ◌≤◌, ◌<◌, add-one, arith, length, take, set}
use Rattle.prelude.proofs.{get_or, length-take-le, take-suc}
use Rattle.blocks.specs.Bytes.{put}
use Rattle.blocks.proofs.Parts.{put-none, put-length, put-put, put-set, put_one}
use Rattle.hex_digits.specs.Hex.{glyph, hex_of}

pub hex-length : (s : List ℕ) → length (hex_of s) ≡ 2 * length s
unfolding hex_of
hex-length [] = refl
hex-length (x ∷ s) = omega (arith, hex-length s)

hex-append : (a b : List ℕ) → hex_of (a ++ b) ≡ hex_of a ++ hex_of b
unfolding hex_of
hex-append [] b = refl
hex-append (x ∷ a) b = ap (λ (z : List ℕ). glyph (x / 16) ∷ glyph (x % 16) ∷ z) (hex-append a b)

-- the two digits of x, stored one behind the other
put_two : (x at : ℕ) (o : List ℕ) (h l : ℕ) → at + 2 ≤ length o → h ≡ glyph (x / 16) → l ≡ glyph (x % 16)
    → set (set o at h) (at + 1) l ≡ put at (hex_of (x ∷ [])) o
unfolding hex_of
put_two x at o h l fits e d =
    ap (λ (z : List ℕ). set z (at + 1) l) (put_one at h o (omega arith))
    ∙ put-set at (h ∷ []) o l (at + 1) refl (omega arith)
    ∙ (λ i. put at (e i ∷ d i ∷ []) o)

-- ---- a loop that writes the digits of s over o: before turn i it has written those of the first i bytes

pub none_written : (o : List ℕ) → o ≡ put 0 (hex_of []) o
unfolding hex_of
none_written o = sym (put-none 0 o)

pub one_more : (s o out : List ℕ) (i h l : ℕ) → out ≡ put 0 (hex_of (take i s)) o → i < length s → 2 * length s ≤ length o
    → h ≡ glyph (get_or s i 0 / 16) → l ≡ glyph (get_or s i 0 % 16)
    → set (set out (2 * i) h) (2 * i + 1) l ≡ put 0 (hex_of (take (i + 1) s)) o
one_more s o out i h l e below fits eh el =
    let long : length (hex_of (take i s)) ≡ 2 * i = omega (arith, hex-length (take i s), length-take-le i s) in
    put_two (get_or s i 0) (2 * i) out h l (omega (arith, ap length e, put-length 0 (hex_of (take i s)) o)) eh el
    ∙ ap (put (2 * i) (hex_of (get_or s i 0 ∷ []))) e
    ∙ put-put 0 (hex_of (take i s)) (hex_of (get_or s i 0 ∷ [])) o (2 * i) (omega (arith, long)) (omega (arith, long))
    ∙ ap (λ (z : List ℕ). put 0 z o) (sym (hex-append (take i s) (get_or s i 0 ∷ [])))
    ∙ sym (rw (add-one, take-suc s i 0 below))
