-- Shared calls under a masked key: each pair of masks is a probe, so exactly one tape shows the same lane. Assumes nothing.
use Rattle.prelude.proofs.{◌≡◌, sym, ap, ◌∙◌, List, ℕ, ◌+◌, ◌*◌, ◌≤◌, arith, length}
use Rattle.blocks.specs.Bytes.{Bytes}
use Rattle.masking.specs.Shares.{Index, Shares, Blocks, add, Reader, at, pair_size, masks_at}
use Rattle.masking.specs.Stages.{Stages, state, masked, shown_shares, lane}
use Rattle.masking.specs.OneTape.{ExactlyOne, lane_mask, Shows, every}
use Rattle.masking.proofs.Shape.{Reads, add-blocks, masks_at-blocks, StageBlocks, state-blocks}
use Rattle.masking.proofs.Causal.{Agree, masks_at-agree, state-agree}
use Rattle.masking.proofs.Probe.{Probe, Turn, met, keyed, shows, one-tape-at}

-- a call whose key shares are the shares given with the masks c, d that stand at a, and whose own masks begin at o; its input
-- hangs on the tape before them
pub record MaskedCall (a o : ℕ) : Type 0 where
  pub given : Shares
  pub input : Reader → Shares
  pub given-blocks : Blocks given
  pub input-blocks : (M : Reader) → Reads M o → Blocks (input M)
  pub input-causal : (M N : Reader) → Agree M N o → input M ≡ input N

-- lane i of pair n + 1
abbrev pub lane_at : Stages → {a o : ℕ} → MaskedCall a o → ℕ → Reader → Index → List ℕ
lane_at D {a} {o} C n M i = lane D (add C.given (masks_at M a)) (C.input M) M o n i

module _ {D : Stages} (W : StageBlocks D) (T : (n : ℕ) → Turn (D.shown_key n)) {a o : ℕ} (low : a + pair_size ≤ o) where
  -- pair n + 1
  unfoldable pub probe : MaskedCall a o → (n : ℕ) → Probe a (o + pair_size * n)
  probe C n = record {
    given = C.given;
    before = λ M. state D (add C.given (masks_at M a)) (C.input M) M o n;
    given-blocks = C.given-blocks;
    before-blocks = λ M h.
        state-blocks W M o (add-blocks C.given-blocks (masks_at-blocks M a (λ p k. h p (omega arith))))
        (C.input-blocks M (λ p k. h p (omega arith))) n h;
    before-causal = λ M N h.
        state-agree D M N o (ap (add C.given) (masks_at-agree M N a (λ p k. h p (omega arith))))
        (C.input-causal M N (λ p k. h p (omega arith))) n h;
  }

  -- exactly one tape shows with E the lane that was seen with C
  pub one-tape : (C E : MaskedCall a o) (n : ℕ) (t : List ℕ) → Bytes t → o + pair_size * n + pair_size ≤ length t → (i : Index)
      → ExactlyOne (Shows (lane_mask a i) (o + pair_size * n) t (lane_at D C n (at t) i) every (λ w. lane_at D E n (at w) i))
  unfolding lane masked shown_shares shows met keyed probe
  one-tape C E n t bt fit i = one-tape-at (omega arith) (D.shown_key n) (T n) (probe C n) (probe E n) t bt fit i

-- the same where a tape has to be accepted, as each of that many bytes is, and what is shown with an accepted one goes by other words
pub one-accepted : {a o : ℕ} {t seen seen' : List ℕ} {accepts : List ℕ → Type 0} {shown shown' : List ℕ → List ℕ} → seen ≡ seen'
    → ((w : List ℕ) → Bytes w → length w ≡ length t → accepts w) → ((w : List ℕ) → Bytes w → accepts w → shown w ≡ shown' w)
    → ExactlyOne (Shows a o t seen' every shown') → ExactlyOne (Shows a o t seen accepts shown)
one-accepted e f g h = record {
  one = h.one;
  holds =
      let S = h.holds in
      let A = f h.one S.all-bytes S.as_long in
      record {
        as_long = S.as_long;
        all-bytes = S.all-bytes;
        elsewhere = S.elsewhere;
        accepted = A;
        same = g h.one S.all-bytes A ∙ S.same ∙ sym e;
      };
  only_one = λ w S. h.only_one w (record {
    as_long = S.as_long;
    all-bytes = S.all-bytes;
    elsewhere = S.elsewhere;
    accepted = tt;
    same = sym (g w S.all-bytes S.accepted) ∙ S.same ∙ e;
  });
}
