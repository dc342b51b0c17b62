-- A number and its bytes say each other, at any width. Assumes nothing.
use Rattle.prelude.proofs.{◌≡◌, refl, sym, ap, ap₂, ◌∙◌, subst, List, [], ◌∷◌, ◌++◌, ℕ, zero, suc, ◌+◌, ◌-◌, ◌*◌, ◌/◌, ◌%◌, ◌^◌, ◌≤◌, ◌<◌}
use Rattle.prelude.proofs.{mod-eq_of_lt, pow-suc, pow-succ', pow-le-pow_right, mul_assoc, add_comm, zero-add, suc-add, one-le-pow}
use Rattle.prelude.proofs.{lt_of_lt_of_le, add-mul-div_right, div-div-eq-div-mul, div-eq_of_lt, div-one, add-one, arith, digits_div}
use Rattle.prelude.proofs.{digits_lt, mod-mul, length, get_or, set, replicate, length-append, take, drop, get_or-take, get_or-drop}
use Rattle.blocks.specs.Bytes.{Bytes, big_endian, value, part, put}
use Rattle.blocks.proofs.Parts.{part_length, part_bytes, part-more, put-none, put-length, set-put}

pub big_endian-length : (w x : ℕ) → length (big_endian w x) ≡ w
unfolding big_endian
big_endian-length zero x = refl
big_endian-length (suc w) x = ap suc (big_endian-length w x)

pub big_endian-bytes : (w x : ℕ) → Bytes (big_endian w x)
unfolding big_endian
big_endian-bytes zero x i = omega arith
big_endian-bytes (suc w) x zero = omega arith
big_endian-bytes (suc w) x (suc i) = big_endian-bytes w x i

256^ : (w : ℕ) → 0 < 256 ^ w
256^ w = one-le-pow w 256 (omega arith)

-- ---- from a number to its bytes and back

pub value-big_endian : (w x : ℕ) → value (big_endian w x) ≡ x % 256 ^ w
unfolding big_endian value
value-big_endian zero x = omega arith
value-big_endian (suc w) x =
    ap₂ (λ (n v : ℕ). x / 256 ^ w % 256 * 256 ^ n + v) (big_endian-length w x) (value-big_endian w x)
    ∙ sym (ap (λ (n : ℕ). x % n) (pow-succ' 256 w) ∙ mod-mul x (omega arith) (256^ w))

pub big_endian-says : (w x : ℕ) → x < 256 ^ w → value (big_endian w x) ≡ x
big_endian-says w x h = value-big_endian w x ∙ mod-eq_of_lt h

-- a number of v bytes, in v + w: zeros stand before it
pub big_endian-narrow : (w v x : ℕ) → x < 256 ^ v → big_endian (w + v) x ≡ replicate w 0 ++ big_endian v x
unfolding big_endian
big_endian-narrow zero v x h = ap (λ (k : ℕ). big_endian k x) (zero-add v)
big_endian-narrow (suc w) v x h =
    let e : x / 256 ^ (w + v) % 256 ≡ 0 = ap (λ (k : ℕ). k % 256)
    (div-eq_of_lt (lt_of_lt_of_le h (pow-le-pow_right {n = 256} (omega arith) {i = v} {j = w + v} (omega arith)))) in
    ap (λ (k : ℕ). big_endian k x) (suc-add w v) ∙ ap₂ (λ (n : ℕ) (l : List ℕ). n ∷ l) e (big_endian-narrow w v x h)

-- ---- from bytes to their number and back

pub value-lt : (s : List ℕ) → Bytes s → value s < 256 ^ length s
unfolding value
value-lt [] b = omega arith
value-lt (x ∷ s) b = rw pow-succ' (digits_lt (b 0) (value-lt s (λ i. b (suc i))))

pub part-lt : (at w : ℕ) (s : List ℕ) → Bytes s → at + w ≤ length s → value (part at w s) < 256 ^ w
part-lt at w s b h =
    subst (λ (k : ℕ). value (part at w s) < 256 ^ k) (part_length at w s h) (value-lt (part at w s) (part_bytes at w s b))

-- what stands above the w bytes does not show
big_endian-low : (w a x : ℕ) → big_endian w (x + a * 256 ^ w) ≡ big_endian w x
unfolding big_endian
big_endian-low zero a x = refl
big_endian-low (suc w) a x =
    let up : a * 256 ^ suc w ≡ a * 256 * 256 ^ w = ap (λ (n : ℕ). a * n) (pow-succ' 256 w) ∙ sym (mul_assoc a 256 (256 ^ w)) in
    let top : (x + a * 256 * 256 ^ w) / 256 ^ w ≡ x / 256 ^ w + a * 256 = add-mul-div_right x (a * 256) (256^ w) in
    ap (λ (n : ℕ). (x + n) / 256 ^ w % 256 ∷ big_endian w (x + n)) up
    ∙ ap₂ (λ (n : ℕ) (l : List ℕ). n ∷ l) (ap (λ (n : ℕ). n % 256) top ∙ omega arith) (big_endian-low w (a * 256) x)

pub big_endian-value : (s : List ℕ) → Bytes s → big_endian (length s) (value s) ≡ s
unfolding big_endian value
big_endian-value [] b = refl
big_endian-value (x ∷ s) b =
    let small = b 0 in
    ap₂ (λ (n : ℕ) (l : List ℕ). n ∷ l)
    (ap (λ (n : ℕ). n % 256) (digits_div x (value-lt s (λ i. b (suc i)))) ∙ mod-eq_of_lt small)
    (ap (big_endian (length s)) (add_comm (x * 256 ^ length s) (value s)) ∙ big_endian-low (length s) x (value s)
    ∙ big_endian-value s (λ i. b (suc i)))

-- a part of a list is the bytes of the number that it says
pub big_endian-part : (at w : ℕ) (s : List ℕ) → Bytes s → at + w ≤ length s → big_endian w (value (part at w s)) ≡ part at w s
big_endian-part at w s b h =
    ap (λ (k : ℕ). big_endian k (value (part at w s))) (sym (part_length at w s h)) ∙ big_endian-value (part at w s) (part_bytes at w s b)

-- ---- reading, a byte a turn

value-append : (s : List ℕ) (x : ℕ) → value (s ++ (x ∷ [])) ≡ value s * 256 + x
unfolding value
value-append [] x = omega arith
value-append (y ∷ s) x =
    let l : length (s ++ (x ∷ [])) ≡ suc (length s) = length-append s (x ∷ []) ∙ add-one (length s) in
    ap₂ (λ (n v : ℕ). y * 256 ^ n + v) l (value-append s x)
    ∙ ap (λ (p : ℕ). y * p + (value s * 256 + x)) (pow-suc 256 (length s))
    ∙ omega arith

pub value_none : 0 ≡ value []
unfolding value
value_none = refl

pub value-more : (at i : ℕ) (s : List ℕ) → at + i < length s → {v : ℕ} → v ≡ value (part at i s)
    → v * 256 + get_or s (at + i) 0 ≡ value (part at (i + 1) s)
value-more at i s h e =
    ap (λ (v : ℕ). v * 256 + get_or s (at + i) 0) e ∙ sym (ap value (part-more at i s h) ∙ value-append (part at i s) (get_or s (at + i) 0))

-- of i bytes, fewer than eight, with one byte more
pub more-fits : (at i : ℕ) (s : List ℕ) → Bytes s → at + i < length s → i < 8 → {v : ℕ} → v ≡ value (part at i s)
    → v * 256 + get_or s (at + i) 0 < 2 ^ 64
more-fits at i s b h l e =
    rw (value-more at i s h e)
    (lt_of_lt_of_le (part-lt at (i + 1) s b (omega arith)) (pow-le-pow_right {n = 256} (omega arith) {i = i + 1} {j = 8} (omega arith)))

-- the bytes of a part: how many, and each of them
pub part-span : (at w : ℕ) (s : List ℕ) → at + w ≤ length s → length (take (at + w - at) (drop at s)) ≡ w
part-span at w s h =
    let n : at + w - at ≡ w = omega arith in
    rw n (part_length at w s h)

pub part-item : (at w i : ℕ) (s : List ℕ) → i < w → get_or (take (at + w - at) (drop at s)) i 0 ≡ get_or s (at + i) 0
part-item at w i s h = get_or-take (at + w - at) (drop at s) i 0 (omega arith) ∙ get_or-drop at s i 0

-- ---- writing w bytes of x from at, the last one first: before the first turn, the length, a turn, and the end

module _ (at w x : ℕ) (o : List ℕ) (fits : at + w ≤ length o) where
  -- the bytes from i on are written
  abbrev pub digits : ℕ → List ℕ
  digits i = put (at + i) (big_endian (w - i) x) o

  pub digits-none : o ≡ digits w
  unfolding big_endian
  digits-none = let e : 0 ≡ w - w = omega arith in sym (put-none (at + w) o) ∙ ap (λ (k : ℕ). put (at + w) (big_endian k x) o) e

  pub digits-length : (i : ℕ) → i ≤ w → {out : List ℕ} → out ≡ digits i → length out ≡ length o
  digits-length i h e = let l = big_endian-length (w - i) x in ap length e ∙ put-length (at + i) (big_endian (w - i) x) o (omega arith)

  -- what is left of the number
  pub rest-none : x ≡ x / 256 ^ (w - w)
  rest-none = let e : 0 ≡ w - w = omega arith in sym (div-one x) ∙ ap (λ (k : ℕ). x / 256 ^ k) e

  pub rest_more : (i : ℕ) → 0 < i → i ≤ w → {rest : ℕ} → rest ≡ x / 256 ^ (w - i) → rest / 256 ≡ x / 256 ^ (w - (i - 1))
  rest_more i h l e =
      let k : w - (i - 1) ≡ suc (w - i) = omega arith in
      ap (λ (n : ℕ). n / 256) e ∙ div-div-eq-div-mul x (256 ^ (w - i)) 256
      ∙ ap (λ (n : ℕ). x / n) (sym (pow-suc 256 (w - i)) ∙ ap (λ (n : ℕ). 256 ^ n) (sym k))

  pub digits_more : (i : ℕ) → 0 < i → i ≤ w → {rest : ℕ} {out : List ℕ} → rest ≡ x / 256 ^ (w - i) → out ≡ digits i
      → set out (at + (i - 1)) (rest % 256) ≡ digits (i - 1)
  unfolding big_endian
  digits_more i h l {rest} {out} e d =
      let k : w - (i - 1) ≡ suc (w - i) = omega arith in
      let n : at + i ≡ at + (i - 1) + 1 = omega arith in
      (λ j. set ((d ∙ ap (λ (n : ℕ). put n (big_endian (w - i) x) o) n) j) (at + (i - 1)) (e j % 256))
      ∙ set-put (at + (i - 1)) (x / 256 ^ (w - i) % 256) (big_endian (w - i) x) o (omega arith)
      ∙ ap (λ (n : ℕ). put (at + (i - 1)) (big_endian n x) o) (sym k)

  pub digits-done : (i : ℕ) → i ≡ 0 → digits i ≡ put at (big_endian w x) o
  digits-done i e =
      let n : at + i ≡ at = omega arith in
      let k : w - i ≡ w = omega arith in
      ap₂ (λ (n k : ℕ). put n (big_endian k x) o) n k
