-- All that a call has before a pair of masks hangs on the tape before it, and the pair's lanes on the tape up to its end.
-- Assumes nothing.
use Rattle.prelude.proofs.{◌≡◌, ap₂, ◌++◌, ℕ, zero, suc, ◌+◌, ◌*◌, ◌≤◌, arith}
use Rattle.masking.specs.Shares.{Index, next, Shares, add, spread, Reader, pair_size, masks_at}
use Rattle.masking.specs.Stages.{Stages, masks_size, state, call, masked, shown_shares, lane}

-- two tapes agree below o
abbrev pub Agree : Reader → Reader → ℕ → Type 0
Agree M N o = (p : ℕ) → p + 16 ≤ o → M p ≡ N p

pub masks_at-agree : (M N : Reader) (o : ℕ) → Agree M N (o + pair_size) → masks_at M o ≡ masks_at N o
masks_at-agree M N o h = ap₂ spread (h _ (omega arith)) (h _ (omega arith))

module _ (D : Stages) (M N : Reader) {key key' input input' : Shares} (o : ℕ) (e : key ≡ key') (f : input ≡ input') where
  pub state-agree : (n : ℕ) → Agree M N (o + pair_size * n) → state D key input M o n ≡ state D key' input' N o n
  unfolding state
  state-agree zero h = ap₂ D.start e f
  state-agree (suc n) h =
      ap₂ (D.stage n) e
      (ap₂ add (state-agree n (λ p k. h p (omega arith))) (masks_at-agree M N (o + pair_size * n) (λ p k. h p (omega arith))))

  masked-agree : (n : ℕ) → Agree M N (o + pair_size * n + pair_size) → masked D key input M o n ≡ masked D key' input' N o n
  unfolding masked
  masked-agree n h = ap₂ add (state-agree n (λ p k. h p (omega arith))) (masks_at-agree M N (o + pair_size * n) h)

  pub call-agree : Agree M N (o + masks_size D) → call D key input M o ≡ call D key' input' N o
  call-agree h = masked-agree D.count (λ p k. h p (omega arith))

  pub lane-agree : (n : ℕ) → Agree M N (o + pair_size * n + pair_size) → (i : Index) → lane D key input M o n i ≡ lane D key' input' N o n i
  unfolding lane shown_shares
  lane-agree n h i =
      let met = masked-agree n h in
      λ z. met z (next i) ++ (met z (next (next i)) ++ D.shown_key n (e z i))
