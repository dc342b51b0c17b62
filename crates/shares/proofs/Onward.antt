-- Rounds on packed shares, one after the other, and their place in a call. Assumes nothing.
use Rattle.prelude.proofs.{◌≡◌, refl, sym, ap, ◌∙◌, fun_ext, Bool, true, false, not, cond, ℕ, zero, suc, min, ◌+◌, ◌-◌, ◌*◌, ◌≤◌, ◌<◌}
use Rattle.prelude.proofs.{arith, T, ltb, ltb→lt, nltb→le}
use Rattle.baksheesh.specs.Baksheesh.{rounds, rotated}
use Rattle.baksheesh.proofs.Steps.{rotated-zero, rotated-suc}
use Rattle.words.proofs.Words.{unpacked-block}
use Rattle.blocks.proofs.ByBits.{rearranged-twice}
use Rattle.shares.specs.{declared.Triple.Triple, declared.Tape.Tape, declared.Seen.Seen}
use Rattle.shares.specs.Packed.{shares_of, onward, Onward, CallDone}
use Rattle.masking.specs.Shares.{i₀, i₁, i₂, Shares, Blocks, add, each, Reader, at, pair_size, masks_at}
use Rattle.masking.specs.Stages.{state, call, masked, shown_shares}
use Rattle.masking.specs.Call.{share_round, encryption, pair_count}

pub packed-blocks : (s : Triple) → Blocks (shares_of s)
packed-blocks s i₀ = unpacked-block s.a
packed-blocks s i₁ = unpacked-block s.b
packed-blocks s i₂ = unpacked-block s.c

-- ---- rotated key shares

pub turned_none : (k : Shares) → Blocks k → k ≡ each (rotated 0) k
turned_none k p = fun_ext (λ i. sym (rotated-zero (k i) (p i)))

pub turned_more : (n : ℕ) (k : Shares) → each (rotated 1) (each (rotated n) k) ≡ each (rotated (suc n)) k
turned_more n k = fun_ext (λ i. rotated-suc n (k i))

turned-twice : (m n : ℕ) (k : Shares) → each (rotated m) (each (rotated n) k) ≡ each (rotated (n + m)) k
turned-twice m n k = fun_ext (λ i. rearranged-twice _ _ _ (λ j h. omega arith) (λ j h. omega arith) (k i))

-- ---- no round, and one more

pub onward-none : (M : Reader) (o n c : ℕ) (r : Seen) → c ≡ 0 → Onward M o n (shares_of r.state) (shares_of r.key) c r
unfolding onward
onward-none M o n c r e =
    let k = shares_of r.key in
    let go : Onward M o n (shares_of r.state) k 0 r = record { state = refl; key = turned_none k (packed-blocks r.key) } in
    rw e go

pub onward-more : {M : Reader} {o n : ℕ} {s k : Shares} {c : ℕ} {r : Seen} → Onward M o n s k c r → (d m p : ℕ) → d ≡ suc c → m ≡ n + c
    → p ≡ o + pair_size * c → {r' : Seen} {t : Shares} → shares_of r'.key ≡ each (rotated 1) (shares_of r.key)
    → t ≡ share_round m (shares_of r.state) (shares_of r'.key) → shares_of r'.state ≡ add t (masks_at M p) → Onward M o n s k d r'
unfolding onward
onward-more {M} {o} {n} {s} {k} {c} W d m p ed em ep {r'} ek et es =
    let turned : shares_of r'.key ≡ each (rotated (suc c)) k = ek ∙ ap (each (rotated 1)) W.key ∙ turned_more c k in
    let go : Onward M o n s k (suc c) r' = record {
      state = es ∙ λ i. add ((et ∙ λ j. share_round (em j) (W.state j) (turned j)) i) (masks_at M (ep i));
      key = turned;
    } in
    rw ed go

-- ---- in a call

module _ (key input : Shares) (M : Reader) (o : ℕ) where
  -- from pair n + 1 on
  pub onward-masked : (n c : ℕ)
      → onward M (o + pair_size * suc n) n (masked encryption key input M o n) (each (rotated n) key) c
      ≡ masked encryption key input M o (n + c)
  unfolding onward masked state
  onward-masked n zero = let e : n ≡ n + 0 = omega arith in ap (masked encryption key input M o) e
  onward-masked n (suc c) =
      let m : ℕ → Shares = masked encryption key input M o in
      let e : suc (n + c) ≡ n + suc c = omega arith in
      let at : o + pair_size * suc n + pair_size * c ≡ o + pair_size * suc (n + c) = omega arith in
      let turned = turned-twice (suc c) n key ∙ ap (λ (z : ℕ). each (rotated z) key) (sym e) in
      (λ i. add (share_round (n + c) (onward-masked n c i) (turned i)) (masks_at M (at i))) ∙ ap m e

-- a call in two parts: up to the pair numbered n, and the rest
module _ (key input state : Triple) (n : ℕ) (low : 1 ≤ n) (high : n ≤ pair_count) (t t₁ t₂ : Tape) (s : Shares) (shown last : Seen)
    (added : s ≡ add (shares_of input) (shares_of key))
    (masked_first : shares_of state ≡ add s (masks_at (at t.bytes.now) t.used))
    (one : t₁ ≡ record t { used = t.used + pair_size })
    (to_pair : Onward (at t₁.bytes.now) t₁.used 0 (shares_of state) (shares_of key) (n - 1 - 0) shown)
    (more : t₂ ≡ record t₁ { used = t₁.used + pair_size * (n - 1 - 0) })
    (to_end : Onward (at t₂.bytes.now) t₂.used (n - 1) (shares_of shown.state) (shares_of shown.key) (rounds - (n - 1)) last) where
  abbrev k : Shares
  k = shares_of key

  abbrev x : Shares
  x = shares_of input

  abbrev M : Reader
  M = at t.bytes.now

  abbrev o : ℕ
  o = t.used

  from-none : n - 1 - 0 ≡ n - 1
  from-none = omega arith

  read : t₂ ≡ record t { used = o + pair_size * suc (n - 1) }
  read =
      let e : t₁.used + pair_size * (n - 1 - 0) ≡ o + pair_size * suc (n - 1) = omega (arith, ap (λ (z : Tape). z.used) one) in
      more ∙ λ i. record { bytes = (one i).bytes; used = e i }

  shown-state : shares_of shown.state ≡ masked encryption k x M o (n - 1)
  unfolding state masked
  shown-state =
      let first : o ≡ o + pair_size * 0 = omega arith in
      let start = masked_first ∙ λ i. add (added i) (masks_at M (first i)) in
      let none : o + pair_size ≡ o + pair_size * 1 = omega arith in
      let begin = one ∙ λ i. record { bytes = t.bytes; used = none i } in
      to_pair.state
      ∙ (λ i. onward (at (begin i).bytes.now) (begin i).used 0 (start i) (turned_none k (packed-blocks key) i) (from-none i))
      ∙ onward-masked k x M o 0 (n - 1) ∙ ap (masked encryption k x M o) (omega arith)

  left : shares_of shown.key ≡ each (rotated (n - 1)) k
  left = to_pair.key ∙ ap (λ (j : ℕ). each (rotated j) k) from-none

  shown-key : {k₂ : Shares} → k₂ ≡ cond (ltb n pair_count) (each (rotated 1) (shares_of shown.key)) (shares_of shown.key)
      → k₂ ≡ shown_shares encryption k x M o (n - 1)
  unfolding shown_shares
  shown-key f₂ = f₂ ∙ go (ltb n pair_count) (ltb→lt n pair_count) (λ t. nltb→le n pair_count t)
    where
      go : (t : Bool) → (T t → n < pair_count) → (T (not t) → pair_count ≤ n)
          → cond t (each (rotated 1) (shares_of shown.key)) (shares_of shown.key) ≡ each (rotated (min (suc (n - 1)) rounds)) k
      go true h g =
          let d : suc (n - 1) ≡ min (suc (n - 1)) rounds = omega (arith, h tt) in
          ap (each (rotated 1)) left ∙ turned_more (n - 1) k ∙ ap (λ (j : ℕ). each (rotated j) k) d
      go false h g =
          let d : n - 1 ≡ min (suc (n - 1)) rounds = omega (arith, g tt) in
          left ∙ ap (λ (j : ℕ). each (rotated j) k) d

  reaches_end : shares_of last.state ≡ call encryption k x M o
  reaches_end =
      let end : n - 1 + (rounds - (n - 1)) ≡ rounds = omega arith in
      to_end.state
      ∙ (λ i. onward (at (read i).bytes.now) (read i).used (n - 1) (shown-state i) (left i) (rounds - (n - 1)))
      ∙ onward-masked k x M o (n - 1) (rounds - (n - 1)) ∙ ap (masked encryption k x M o) end

  pub call-done : {shown_key : Triple}
      → shares_of shown_key ≡ cond (ltb n pair_count) (each (rotated 1) (shares_of shown.key)) (shares_of shown.key)
      → CallDone k x M o n (record { out = last.state; seen = record { state = shown.state; key = shown_key } })
  call-done e = record { out = reaches_end; state = shown-state; key = shown-key e }
