-- The bytes of a link say that link; bytes of its size whose flag is 0 or 1 are those of the link that they say. For any sizes of keys and
-- tail. A width in the last byte. Assumes nothing.
use Rattle.prelude.proofs.{◌≡◌, refl, sym, ap, ◌∙◌, Bool, true, false, List, [], ◌∷◌, ◌++◌, append_assoc, ℕ, zero, suc, ◌+◌, ◌-◌, ◌^◌, ◌≤◌}
use Rattle.prelude.proofs.{◌<◌, arith, eqb, length, get_or, take, drop, length-append, take-append-drop, take_at, drop_at, drop-drop}
use Rattle.prelude.proofs.{ap₂, ◌&&◌, leb, drop-length, drop-cons, le-leb, eqb-true, eq-eqb}
use Rattle.blocks.specs.Bytes.{Bytes, big_endian, put}
use Rattle.blocks.proofs.{Numbers.big_endian-length, Numbers.big_endian-says, Numbers.big_endian-part, Parts.put-put, Parts.put_whole}
use Rattle.blocks.proofs.Same.{both_true}
use Rattle.links.specs.{Record.number_size, Record.told, declared.Width.Width}
use Rattle.links.specs.declared.Width.TheVariants.{Narrow, Wide}
use Rattle.layout.specs.Layout.{last_size, number_at, last_at, keys_at, link_size, flag, link_bytes, keyed_in, number_in, last_in, keys_in}
use Rattle.layout.specs.Layout.{tail_in, width_byte, sound}

-- ---- written, part by part

-- a part written behind those that were
behind : (xs ys o out : List ℕ) (n : ℕ) → out ≡ put 0 xs o → n ≡ length xs → n ≤ length o → put n ys out ≡ put 0 (xs ++ ys) o
behind xs ys o out n e d h = ap (put n ys) e ∙ put-put 0 xs ys o n (omega arith) (omega arith)

-- with keys of n bytes, a word of t and the width's byte, which stands at the place p
pub written : (k : Bool) (n t p f x l w : ℕ) (e m word o : List ℕ) → f ≡ flag k → length e ≡ n → length m ≡ n → length word ≡ t
    → length o ≡ link_size (n + n) (t + 1) → p ≡ length o - 1
    → put p (w ∷ []) (put (p - t) word (put (keys_at + n) m (put keys_at e
    (put last_at (big_endian last_size l) (put number_at (big_endian number_size x) (put 0 (f ∷ []) o))))))
    ≡ link_bytes k x l e m (word ++ (w ∷ []))
written k n t p f x l w e m word o h he hm hw s hp =
    let X : List ℕ = big_endian number_size x in
    let L : List ℕ = big_endian last_size l in
    let lx : length X ≡ number_size = big_endian-length number_size x in
    let ll : length L ≡ last_size = big_endian-length last_size l in
    let p₁ = behind (f ∷ []) X o _ number_at refl (omega arith) (omega arith) in
    let p₂ = behind (f ∷ X) L o _ last_at p₁ (omega arith) (omega arith) in
    let p₃ = behind (f ∷ (X ++ L)) e o _ keys_at p₂ (simp length-append (omega arith)) (omega arith) in
    let p₄ = behind (f ∷ ((X ++ L) ++ e)) m o _ (keys_at + n) p₃ (simp length-append (omega arith)) (omega arith) in
    let p₅ = behind (f ∷ (((X ++ L) ++ e) ++ m)) word o _ (p - t) p₄ (simp length-append (omega arith)) (omega arith) in
    let p₆ = behind (f ∷ ((((X ++ L) ++ e) ++ m) ++ word)) (w ∷ []) o _ p p₅ (simp length-append (omega arith)) (omega arith) in
    p₆ ∙ put_whole _ o (simp length-append (omega arith))
    ∙ simp append_assoc (ap (λ (z : ℕ). z ∷ (X ++ (L ++ (e ++ (m ++ (word ++ (w ∷ []))))))) h)

-- ---- what bytes say

-- the bytes b, with p bytes of KE and q of KM, are as many as they have to be and say these fields
pub record Says (p q : ℕ) (b : List ℕ) (k : Bool) (x l : ℕ) (e m t : List ℕ) : Type 0 where
  pub size : length b ≡ link_size (p + q) (length t)
  pub keyed : k ≡ keyed_in b
  pub number : x ≡ number_in b
  pub last : l ≡ last_in b
  pub ke : e ≡ keys_in 0 p b
  pub km : m ≡ keys_in p q b
  pub tail : t ≡ tail_in (p + q) b

flagged : (k : Bool) → k ≡ eqb (flag k) 1
flagged true = refl
flagged false = refl

pub bytes-say : (p q : ℕ) (k : Bool) (x l : ℕ) (e m t : List ℕ) → x < 256 ^ number_size → l < 256 ^ last_size → length e ≡ p → length m ≡ q
    → Says p q (link_bytes k x l e m t) k x l e m t
unfolding big_endian
bytes-say p q k x l e m t hx hl he hm =
    let b : List ℕ = link_bytes k x l e m t in
    let n : keys_at + (p + q) ≡ keys_at + p + q = omega arith in
    let after : drop (keys_at + p) b ≡ m ++ t = sym (drop-drop p keys_at b) ∙ drop_at e (m ++ t) p he in
    record {
      size = simp length-append (omega arith);
      keyed = flagged k;
      number = sym (big_endian-says number_size x hx);
      last = sym (big_endian-says last_size l hl);
      ke = sym (take_at e (m ++ t) p he);
      km = sym (ap (take q) after ∙ take_at m t q hm);
      tail = sym (ap (λ (i : ℕ). drop i b) n ∙ sym (drop-drop q (keys_at + p) b) ∙ ap (drop q) after ∙ drop_at m t q hm);
    }

first_byte : (x : ℕ) → x ≤ 1 → flag (eqb x 1) ≡ x
first_byte zero h = refl
first_byte (suc zero) h = refl
first_byte (suc (suc x)) h = absurd (omega arith)

pub bytes-said : (p q : ℕ) (b : List ℕ) → Bytes b → get_or b 0 0 ≤ 1 → (k : Bool) (x l : ℕ) (e m t : List ℕ)
    → Says p q b k x l e m t → link_bytes k x l e m t ≡ b
bytes-said p q [] h f k x l e m t s = absurd (let z = s.size in omega arith)
bytes-said p q (y ∷ b) h f k x l e m t s =
    let size = s.size in
    let r : List ℕ = y ∷ b in
    let n : keys_at + (p + q) ≡ keys_at + p + q = omega arith in
    let keys : keys_in 0 p r ++ (keys_in p q r ++ tail_in (p + q) r) ≡ drop keys_at r =
    ap (λ (z : List ℕ). keys_in 0 p r ++ (keys_in p q r ++ z)) (ap (λ (i : ℕ). drop i r) n ∙ sym (drop-drop q (keys_at + p) r))
    ∙ ap (λ (z : List ℕ). keys_in 0 p r ++ z) (take-append-drop q (drop (keys_at + p) r) ∙ sym (drop-drop p keys_at r))
    ∙ take-append-drop p (drop keys_at r) in
    let number = big_endian-part number_at number_size r h (omega arith) in
    let last = big_endian-part last_at last_size r h (omega arith) in
    (λ i. link_bytes (s.keyed i) (s.number i) (s.last i) (s.ke i) (s.km i) (s.tail i))
    ∙ (λ i. first_byte y f i ∷ (number i ++ (last i ++ keys i)))
    ∙ rw (← drop-drop last_size number_size b, take-append-drop last_size (drop number_size b), take-append-drop number_size b)

-- ---- the width, in a link's last byte

pub width_read : (w : Width) → told (width_byte w) ≡ w
width_read Narrow = refl
width_read Wide = refl

pub width-byte : (w : Width) → width_byte w ≤ 1
width-byte Narrow = omega arith
width-byte Wide = omega arith

pub width-written : (x : ℕ) → x ≤ 1 → width_byte (told x) ≡ x
width-written zero h = refl
width-written (suc zero) h = refl
width-written (suc (suc x)) h = absurd (omega arith)

-- behind all bytes but one stands that one
pub last_byte : (b : List ℕ) (n : ℕ) → length b ≡ n + 1 → get_or b n 0 ∷ [] ≡ drop n b
last_byte b n e =
    let s : suc n ≡ length b = omega arith in
    ap (λ (z : List ℕ). get_or b n 0 ∷ z) (sym (ap (λ (k : ℕ). drop k b) s ∙ drop-length b)) ∙ sym (drop-cons b n 0 (omega arith))

-- ---- bytes that can say a link

pub sound-size : (size p : ℕ) (b : List ℕ) → sound size p b ≡ true → length b ≡ size
sound-size size p b e = eqb-true (length b) size (both_true (eqb (length b) size) (leb (get_or b p 0) 1) e).0

pub is-sound : (size p : ℕ) (b : List ℕ) → length b ≡ size → get_or b p 0 ≤ 1 → sound size p b ≡ true
is-sound size p b e h = ap₂ ◌&&◌ (eq-eqb (length b) size e) (le-leb (get_or b p 0) 1 h)
