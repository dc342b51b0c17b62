-- Words made of words by xor, masks and shifts. Each bit of such a word is the xor of some bits of the words
-- that it is made of, and which ones antt computes: so one test shows what a straight line of such steps does.
-- Assumes nothing.
use Rattle.prelude.proofs.{◌≡◌, refl, sym, ap, ap₂, ◌∙◌, subst⁻¹, Bool, true, false, not, ◌&&◌, cond, and_comm, List, [], ◌∷◌, ℕ, ◌+◌, ◌-◌}
use Rattle.prelude.proofs.{◌*◌, ◌/◌, ◌%◌, ◌^◌, ◌≤◌, ◌<◌, mod-lt, lt_of_le_of_lt, div-le_self, lt_of_lt_of_le, le_trans, arith, T, eqb, leb}
use Rattle.prelude.proofs.{ltb, eqb→eq, ltb→lt, leb→le, nleb→lt, nltb→le, bit_xor, bit_and, xor_lt, and_le_l, pow_pos, pow_mono, get_or}
use Rattle.bits.specs.{Bit.bit, Bit.odd, Bit.◌⊻◌, Swap.swapmove}
use Rattle.bits.proofs.Laws.{bit-xor, bit-and, bit-shr, bit-low, bit-shl, bit-shl-low, bit_high}
use Rattle.bits.proofs.Laws.{⊻-assoc, ⊻-left-comm, ⊻-again, ⊻-false}
use Rattle.bits.proofs.Test.{each, below, and_left, and_right}

-- the bits that a bit is the xor of: bit i of word k is 64k + i, in order; a bit that comes twice goes

abbrev toggle : ℕ → List ℕ → List ℕ
toggle p [] = p ∷ []
toggle p (q ∷ qs) = cond (eqb p q) qs (cond (ltb p q) (p ∷ q ∷ qs) (q ∷ toggle p qs))

abbrev join : List ℕ → List ℕ → List ℕ
join [] qs = qs
join (p ∷ ps) qs = toggle p (join ps qs)

abbrev when : Bool → (Bool → List ℕ) → List ℕ
when true f = f true
when false f = []

abbrev pub same : List ℕ → List ℕ → Bool
same [] [] = true
same [] (q ∷ qs) = false
same (p ∷ ps) [] = false
same (p ∷ ps) (q ∷ qs) = eqb p q && same ps qs

same→eq : (ps qs : List ℕ) → T (same ps qs) → ps ≡ qs
same→eq [] [] t = refl
same→eq [] (q ∷ qs) t = absurd t
same→eq (p ∷ ps) [] t = absurd t
same→eq (p ∷ ps) (q ∷ qs) t =
    ap₂ (λ (x : ℕ) (l : List ℕ). x ∷ l)
    (eqb→eq p q (and_left (eqb p q) (same ps qs) t)) (same→eq ps qs (and_right (eqb p q) (same ps qs) t))

module _ (ws : List ℕ) where
  abbrev pub at : ℕ → Bool
  at p = bit (get_or ws (p / 64) 0) (p % 64)

  abbrev pub sum : List ℕ → Bool
  sum [] = false
  sum (p ∷ ps) = at p ⊻ sum ps

  sum-toggle : (p : ℕ) (qs : List ℕ) → sum (toggle p qs) ≡ (at p ⊻ sum qs)
  sum-toggle p [] = refl
  sum-toggle p (q ∷ qs) = go (eqb p q) (ltb p q) (λ t. eqb→eq p q t) (sum-toggle p qs)
    where
      go : (b c : Bool) → (T b → p ≡ q) → sum (toggle p qs) ≡ (at p ⊻ sum qs)
          → sum (cond b qs (cond c (p ∷ q ∷ qs) (q ∷ toggle p qs))) ≡ (at p ⊻ (at q ⊻ sum qs))
      go true c e r = ⊻-again (at p) (sum qs) ∙ ap (λ (x : ℕ). at p ⊻ (at x ⊻ sum qs)) (e tt)
      go false true e r = refl
      go false false e r = ap (λ (x : Bool). at q ⊻ x) r ∙ ⊻-left-comm (at q) (at p) (sum qs)

  sum-join : (ps qs : List ℕ) → (sum ps ⊻ sum qs) ≡ sum (join ps qs)
  sum-join [] qs = refl
  sum-join (p ∷ ps) qs =
      ⊻-assoc (at p) (sum ps) (sum qs) ∙ ap (λ (x : Bool). at p ⊻ x) (sum-join ps qs) ∙ sym (sum-toggle p (join ps qs))

  sum-when : (b x : Bool) (f : Bool → List ℕ) → (T b → x ≡ sum (f true)) → (b && x) ≡ sum (when b f)
  sum-when true x f e = e tt
  sum-when false x f e = refl

-- ---- x is a word of w bits, made of the words ws: its bit i is the xor of the bits that from i lists
pub record Made (w : ℕ) (ws : List ℕ) (x : ℕ) (from : ℕ → List ℕ) : Type 0 where
  pub width : w ≤ 64
  pub fits : x < 2 ^ w
  pub bits : (i : ℕ) → i < w → bit x i ≡ sum ws (from i)

bit_up : (w x n i : ℕ) → i < w → bit (x * 2 ^ n % 2 ^ w) i ≡ (leb n i && bit x (i - n))
bit_up w x n i h = bit-low (x * 2 ^ n) w i h ∙ go (leb n i) (leb→le n i) (λ (t : T (not (leb n i))). nleb→lt n i t)
  where
    go : (b : Bool) → (T b → n ≤ i) → (T (not b) → i < n) → bit (x * 2 ^ n) i ≡ (b && bit x (i - n))
    go true l r =
        let k = l tt in let e : i ≡ n + (i - n) = omega arith in
        ap (bit (x * 2 ^ n)) e ∙ bit-shl x n (i - n)
    go false l r = bit-shl-low x n i (r tt)

-- a bit past the width is not set
bit_past : (w x i : ℕ) → x < 2 ^ w → bit x i ≡ (ltb i w && bit x i)
bit_past w x i h = go (ltb i w) (λ (t : T (not (ltb i w))). nltb→le i w t)
  where
    go : (b : Bool) → (T (not b) → w ≤ i) → bit x i ≡ (b && bit x i)
    go true r = refl
    go false r = bit_high x i (lt_of_lt_of_le h (pow_mono (r tt)))

abbrev pub Places : Type 0
Places = ℕ → List ℕ

abbrev pub own : ℕ → Places
own k i = (64 * k + i) ∷ []

abbrev pub joined : Places → Places → Places
joined f g i = join (f i) (g i)

abbrev pub at-mask : ℕ → Places → Places
at-mask m f i = when (odd (m / 2 ^ i)) (λ _. f i)

abbrev pub up : ℕ → Places → Places
up n f i = when (leb n i) (λ _. f (i - n))

abbrev pub down : ℕ → ℕ → Places → Places
down w n f i = when (ltb (n + i) w) (λ _. f (n + i))

at_place : (ws : List ℕ) (k i : ℕ) → i < 64 → at ws (64 * k + i) ≡ bit (get_or ws k 0) i
at_place ws k i h =
    let e : (64 * k + i) / 64 ≡ k = omega arith in let m : (64 * k + i) % 64 ≡ i = omega arith in
    ap₂ (λ (x y : ℕ). bit (get_or ws x 0) y) e m

-- word k itself
pub input : (w : ℕ) (ws : List ℕ) (k : ℕ) → w ≤ 64 → get_or ws k 0 < 2 ^ w → Made w ws (get_or ws k 0) (own k)
input w ws k d l = record {
  width = d;
  fits = l;
  bits = λ i h. sym (⊻-false (at ws (64 * k + i)) ∙ at_place ws k i (omega arith));
}

module _ {w : ℕ} {ws : List ℕ} {x : ℕ} {f : ℕ → List ℕ} (a : Made w ws x f) where
  pub equal : {y : ℕ} → y ≡ x → Made w ws y f
  equal e = subst⁻¹ (λ (z : ℕ). Made w ws z f) e a

  pub xored : {y : ℕ} {g : ℕ → List ℕ} → Made w ws y g → Made w ws (bit_xor x y) (joined f g)
  xored {y} {g} b = record {
    width = a.width;
    fits = xor_lt w x y a.fits b.fits;
    bits = λ i h. bit-xor x y i ∙ ap₂ ◌⊻◌ (a.bits i h) (b.bits i h) ∙ sum-join ws (f i) (g i);
  }

  pub masked : (m : ℕ) → Made w ws (bit_and x m) (at-mask m f)
  unfolding bit
  masked m = record {
    width = a.width;
    fits = lt_of_le_of_lt (and_le_l x m) a.fits;
    bits = λ i h.
        bit-and x m i ∙ and_comm (bit x i) (bit m i) ∙ sum-when ws (bit m i) (bit x i) (λ _. f i) (λ _. a.bits i h);
  }

  pub shl : (n : ℕ) → Made w ws (x * 2 ^ n % 2 ^ w) (up n f)
  shl n = record {
    width = a.width;
    fits = mod-lt (x * 2 ^ n) (pow_pos w);
    bits = λ i h.
        bit_up w x n i h ∙ sum-when ws (leb n i) (bit x (i - n)) (λ _. f (i - n)) (λ _. a.bits (i - n) (omega arith));
  }

  pub shr : (n : ℕ) → Made w ws (x / 2 ^ n) (down w n f)
  shr n = record {
    width = a.width;
    fits = lt_of_le_of_lt (div-le_self x (2 ^ n)) a.fits;
    bits = λ i h.
        bit-shr x n i ∙ bit_past w x (n + i) a.fits
        ∙ sum-when ws (ltb (n + i) w) (bit x (n + i)) (λ _. f (n + i)) (λ t. a.bits (n + i) (ltb→lt (n + i) w t));
  }

  -- as a word of more bits, and of fewer that it fits in
  pub wider : (v : ℕ) → v ≤ 64 → w ≤ v → Made v ws x (down w 0 f)
  wider v d l = record {
    width = d;
    fits = lt_of_lt_of_le a.fits (pow_mono l);
    bits = λ i h.
        let e : 0 + i ≡ i = omega arith in
        bit_past w x i a.fits ∙ rw e (sum-when ws (ltb i w) (bit x i) (λ _. f i) (λ t. a.bits i (ltb→lt i w t)));
  }

  pub narrower : (v : ℕ) → v ≤ w → x < 2 ^ v → Made v ws x f
  narrower v l k = record {
    width = le_trans l a.width;
    fits = k;
    bits = λ i h. a.bits i (lt_of_lt_of_le h l);
  }

  -- a word of which it is known that its bit i is bit (place i) of this one
  pub through : {y : ℕ} → y < 2 ^ w → (place : ℕ → ℕ) → ((i : ℕ) → i < w → bit y i ≡ bit x (place i))
      → T (each w (λ i. ltb (place i) w)) → Made w ws y (λ i. f (place i))
  through l place e t = record {
    width = a.width;
    fits = l;
    bits = λ i h. e i h ∙ a.bits (place i) (ltb→lt (place i) w (below w (λ i. ltb (place i) w) t i h));
  }

  -- what a test of all its bits shows: bit i of x is bit (place i) of word (from i)
  pub moved : (from place : ℕ → ℕ) → T (each w (λ i. same (f i) ((64 * from i + place i) ∷ []) && ltb (place i) 64))
      → (i : ℕ) → i < w → bit x i ≡ bit (get_or ws (from i) 0) (place i)
  moved from place t i h =
      a.bits i h
      ∙ ap (sum ws) (same→eq (f i) (p ∷ []) (and_left (same (f i) (p ∷ [])) (ltb (place i) 64) u))
      ∙ ⊻-false (at ws p)
      ∙ at_place ws (from i) (place i) (ltb→lt (place i) 64 (and_right (same (f i) (p ∷ [])) (ltb (place i) 64) u))
    where
      p : ℕ
      p = 64 * from i + place i

      u : T (same (f i) (p ∷ []) && ltb (place i) 64)
      u = below w (λ i. same (f i) ((64 * from i + place i) ∷ []) && ltb (place i) 64) t i h

-- ---- a delta swap

abbrev differing-places : ℕ → ℕ → ℕ → Places → Places
differing-places w m n f = at-mask m (joined (down w n f) f)

abbrev pub swapped-places : ℕ → ℕ → ℕ → Places → Places
swapped-places w m n f = joined (joined f (differing-places w m n f)) (up n (differing-places w m n f))

-- one word, and what a delta swap makes of a word
pub alone : {w x : ℕ} → T (leb w 64) → x < 2 ^ w → Made w (x ∷ []) x (own 0)
alone {w} {x} d h = input w (x ∷ []) 0 (leb→le w 64 d) h

pub swapped : {w : ℕ} {ws : List ℕ} {x y : ℕ} {f : ℕ → List ℕ} (m n : ℕ) → Made w ws x f → y ≡ swapmove w x m n
    → Made w ws y (swapped-places w m n f)
unfolding swapmove
swapped m n a e = let t = masked (xored (shr a n) a) m in equal (xored (xored a t) (shl t n)) e
