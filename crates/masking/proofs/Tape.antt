-- Tapes: what is read of one at a place, and where a block was written over it. Assumes nothing.
use Rattle.prelude.proofs.{◌≡◌, refl, sym, ap, ◌∙◌, inl, inr, List, ◌++◌, ℕ, ◌+◌, ◌-◌, ◌≤◌, ◌<◌, lt_of_not-le, dec_le, arith, length, take}
use Rattle.prelude.proofs.{drop, get_or, get_or-take, get_or-drop, ext_get_or, take_at, drop_at}
use Rattle.blocks.specs.Bytes.{Bytes, Block, part, put}
use Rattle.blocks.proofs.{Xor.bytes_take, Xor.bytes_drop, Xor.bytes-append, Parts.part_length, Parts.part_bytes, Parts.part-take}
use Rattle.blocks.proofs.Written.{before-put, part-there, behind-put}
use Rattle.masking.specs.{Shares.at, OneTape.Outside}
use Rattle.masking.proofs.{Shape.Reads, Causal.Agree}

-- ---- places

pub data Where (p w j : ℕ) : Type 0 where
  outside : Outside p w j → Where p w j
  inside : p ≤ j → j < p + w → Where p w j

pub where-is : (p w j : ℕ) → Where p w j
where-is p w j = go (dec_le p j) (dec_le (p + w) j)
  where
    go : Dec (p ≤ j) → Dec (p + w ≤ j) → Where p w j
    go (yes a) (yes b) = outside (inr b)
    go (yes a) (no b) = inside a (lt_of_not-le b)
    go (no a) b = outside (inl (lt_of_not-le a))

-- ---- what is read

pub at_size : (t : List ℕ) (p : ℕ) → p + 16 ≤ length t → length (at t p) ≡ 16
unfolding at
at_size t p h = part_length p 16 t h

pub at_reads : (t : List ℕ) (o : ℕ) → Bytes t → o ≤ length t → Reads (at t) o
unfolding at
at_reads t o b h p k = record { size = at_size t p (omega arith); bytes = part_bytes p 16 t b }

pub at-get_or : (t : List ℕ) (p j : ℕ) → j < 16 → get_or (at t p) j 0 ≡ get_or t (p + j) 0
unfolding at
at-get_or t p j h = get_or-take 16 (drop p t) j 0 h ∙ get_or-drop p t j 0

-- two tapes with the same bytes there read the same there, and the other way round
pub at-ext : (t u : List ℕ) (p : ℕ) → p + 16 ≤ length t → length t ≡ length u
    → ((j : ℕ) → p ≤ j → j < p + 16 → get_or t j 0 ≡ get_or u j 0) → at t p ≡ at u p
at-ext t u p h e f =
    let su : length (at u p) ≡ 16 = at_size u p (omega arith) in
    let st : length (at t p) ≡ 16 = at_size t p h in
    ext_get_or 0 (at t p) (at u p) (st ∙ sym su)
    (λ j k. let j16 : j < 16 = omega arith in at-get_or t p j j16 ∙ f (p + j) (omega arith) (omega arith) ∙ sym (at-get_or u p j j16))

pub at-inside : (t u : List ℕ) (p j : ℕ) → at t p ≡ at u p → p ≤ j → j < p + 16 → get_or t j 0 ≡ get_or u j 0
at-inside t u p j e h k =
    let q : p + (j - p) ≡ j = omega arith in
    ap (λ (n : ℕ). get_or t n 0) (sym q) ∙ sym (at-get_or t p (j - p) (omega arith)) ∙ ap (λ (l : List ℕ). get_or l (j - p) 0) e
    ∙ at-get_or u p (j - p) (omega arith) ∙ ap (λ (n : ℕ). get_or u n 0) q

-- what stands before o tells what is read before o
pub take-agree : (t u : List ℕ) (o : ℕ) → take o t ≡ take o u → Agree (at t) (at u) o
unfolding at
take-agree t u o e p h = sym (part-take p 16 o t h) ∙ ap (part p 16) e ∙ part-take p 16 o u h

-- ---- a block b written over a tape t from p on

module _ {b : List ℕ} (t : List ℕ) (p : ℕ) (w : Block b) (h : p + 16 ≤ length t) where
  pub put-outside : (j : ℕ) → Outside p 16 j → get_or (put p b t) j 0 ≡ get_or t j 0
  put-outside j (inl k) =
      sym (get_or-take p (put p b t) j 0 k) ∙ ap (λ (l : List ℕ). get_or l j 0) (before-put p b t (omega arith)) ∙ get_or-take p t j 0 k
  put-outside j (inr k) =
      let n : ℕ = p + length b in
      let e : n + (j - n) ≡ j = omega (arith, w.size) in
      ap (λ (i : ℕ). get_or (put p b t) i 0) (sym e) ∙ sym (get_or-drop n (put p b t) (j - n) 0)
      ∙ ap (λ (l : List ℕ). get_or l (j - n) 0) (behind-put p b t (omega arith))
      ∙ get_or-drop n t (j - n) 0 ∙ ap (λ (i : ℕ). get_or t i 0) e

  pub put-bytes : Bytes t → Bytes (put p b t)
  unfolding put
  put-bytes k = bytes-append (take p t) _ (bytes_take p t k) (bytes-append b _ w.bytes (bytes_drop (p + length b) t k))

  -- what is read there, and before
  pub put-at : at (put p b t) p ≡ b
  unfolding at
  put-at = part-there p b t (omega arith) 16 w.size

  pub put-agree : Agree (at (put p b t)) (at t) p
  put-agree = take-agree (put p b t) t p (before-put p b t (omega arith))

-- ---- equal parts of equal lists

pub append-parts : (a b c d : List ℕ) → length a ≡ length c → a ++ b ≡ c ++ d → (a ≡ c) × (b ≡ d)
append-parts a b c d h e = (
  sym (take_at a b (length a) refl) ∙ ap (take (length a)) e ∙ take_at c d (length a) (sym h),
  sym (drop_at a b (length a) refl) ∙ ap (drop (length a)) e ∙ drop_at c d (length a) (sym h),
)
