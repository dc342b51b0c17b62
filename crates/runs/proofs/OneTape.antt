-- Two runs whose call k has its masks in the same places: exactly one tape shows with the second the lane seen with the first.
-- Assumes nothing.
use Rattle.prelude.proofs.{◌≡◌, refl, List, ℕ, ◌+◌, ◌-◌, ◌*◌, ◌≤◌, arith, length}
use Rattle.blocks.specs.Bytes.{Bytes}
use Rattle.masking.specs.Shares.{Index, add, Reader, at, pair_size, masks_at}
use Rattle.masking.specs.Stages.{Stages, lane}
use Rattle.masking.specs.OneTape.{ExactlyOne, lane_mask, Shows, every}
use Rattle.masking.proofs.MaskedCall.{MaskedCall, lane_at, one-tape, one-accepted}
use Rattle.masking.proofs.{Shape.StageBlocks, Probe.Turn}
use Rattle.runs.specs.Run.{Run, key_shares, input_of, lane_of}
use Rattle.runs.proofs.Run.{Placed, RunBlocks, input-agree, input-blocks}

module _ {D : Stages} (W : StageBlocks D) (k : ℕ) (l : 1 ≤ k) where
  -- call k, its key's masks standing at a and its own at o
  unfoldable masked : {R : Run} → Placed D R → RunBlocks R → (a o : ℕ) → R.key_at k ≡ a → R.begins k ≡ o → MaskedCall a o
  masked {R} L B a o ea eo = record {
    given = R.given k;
    input = λ M. input_of D R M k;
    given-blocks = B.given-blocks k;
    input-blocks = λ M h. input-blocks L W B M k o l (omega arith) h;
    input-causal = λ M N h. input-agree L M N k l (λ p q. h p (omega arith));
  }

  lane-masked : {R : Run} (L : Placed D R) (B : RunBlocks R) (a o : ℕ) (ea : R.key_at k ≡ a) (eo : R.begins k ≡ o)
      (r : ℕ) (M : Reader) (i : Index) → lane_of D R M k r i ≡ lane_at D (masked L B a o ea eo) (r - 1) M i
  unfolding lane_of key_shares masked
  lane-masked {R} L B a o ea eo r M i = λ z. lane D (add (R.given k) (masks_at M (ea z))) (input_of D R M k) M (eo z) (r - 1) i

  pub one-tape-run : ((n : ℕ) → Turn (D.shown_key n)) → {R Q : Run} → Placed D R → RunBlocks R → Placed D Q → RunBlocks Q
      → Q.key_at k ≡ R.key_at k → Q.begins k ≡ R.begins k
      → (r : ℕ) (t : List ℕ) → Bytes t → R.begins k + pair_size * (r - 1) + pair_size ≤ length t → (i : Index)
      → ExactlyOne (Shows (lane_mask (R.key_at k) i) (R.begins k + pair_size * (r - 1)) t (lane_of D R (at t) k r i) every
      (λ w. lane_of D Q (at w) k r i))
  one-tape-run T {R} L B L' B' ea eo r t bt fit i =
      one-accepted (lane-masked L B _ _ refl refl r (at t) i) (λ w bw d. tt) (λ w bw A. lane-masked L' B' _ _ ea eo r (at w) i)
      (one-tape W T (L.keys-before k k) (masked L B (R.key_at k) (R.begins k) refl refl) (masked L' B' (R.key_at k) (R.begins k) ea eo)
      (r - 1) t bt fit i)
