-- BAKSHEESH on shares is a call of such stages: they make blocks of blocks, join to the plain cipher's rounds, show each key in its own
-- way, and make of each share, from its lane alone, the next. Assumes nothing.
use Rattle.prelude.proofs.{◌≡◌, refl, sym, ap, ap₂, ◌∙◌, List, ℕ, zero, suc, min, ◌*◌, arith}
use Rattle.blocks.specs.Bytes.{Block, ◌⊕◌}
use Rattle.blocks.proofs.ByBits.{rearranged-block, rearranged-twice, rearranged-same}
use Rattle.baksheesh.specs.Baksheesh.{rounds, from, perm_bits, constant, rotated, round, after, encrypt}
use Rattle.baksheesh.proofs.Steps.{constant-block}
use Rattle.masking.specs.Shares.{Index, i₀, i₁, i₂, next, is_first, Shares, Blocks, join, add, each, only}
use Rattle.masking.specs.Stages.{plain_after}
use Rattle.masking.specs.Call.{share_round, lane_round, encryption, plain_encryption}
use Rattle.masking.specs.{Sbox.sbox_form, Sbox.form_shares, OneTape.round_on_lane}
use Rattle.masking.proofs.Shape.{add-blocks, only-blocks, StageBlocks}
use Rattle.masking.proofs.Joins.{join-add, join-only, join-map, rearranged-linear, StageJoins}
use Rattle.masking.proofs.Lane.{first_part, second-part, third-part, StageLanes}
use Rattle.masking.proofs.{Sbox.form_shares-blocks, Sbox.sbox-join, Probe.Turn}

-- ---- blocks

pub encryption-blocks : StageBlocks encryption
encryption-blocks = record {
  start-blocks = λ p q. add-blocks q p;
  stage-blocks = λ n p q. add-blocks (add-blocks (λ i. rearranged-block _ _) (only-blocks (constant-block n))) (λ i. rearranged-block _ _);
  shown-block = λ n p. rearranged-block _ _;
}

-- ---- joined

pub round-join : (n : ℕ) (s k : Shares) → Blocks s → join (share_round n s k) ≡ round n (join k) (join s)
round-join n s k p =
    join-add (add (each perm_bits (form_shares sbox_form s)) (only (constant n))) k
    ∙ ap (λ (l : List ℕ). l ⊕ join k)
    (join-add (each perm_bits (form_shares sbox_form s)) (only (constant n))
    ∙ ap₂ ◌⊕◌
    (join-map (rearranged-linear from) (form_shares sbox_form s) (form_shares-blocks sbox_form s) ∙ ap perm_bits (sbox-join s p))
    (join-only (constant-block n)))

pub encryption-joins : StageJoins encryption plain_encryption
encryption-joins = record {
  start-join = λ key input p q. join-add input key;
  stage-join = λ n key s p q.
      round-join n s (each (rotated (suc n)) key) q
      ∙ ap (λ (k : List ℕ). round n k (join s)) (join-map (rearranged-linear _) key p);
  shown-linear = λ n. rearranged-linear _;
}

pub plain-after : (key input : List ℕ) (n : ℕ) → plain_after plain_encryption key input n ≡ after n key (input ⊕ key)
unfolding plain_after after
plain-after key input zero = refl
plain-after key input (suc n) = ap (round n (rotated (suc n) key)) (plain-after key input n)

pub plain-encrypts : (key input : List ℕ) → plain_after plain_encryption key input rounds ≡ encrypt key input
unfolding encrypt
plain-encrypts key input = plain-after key input rounds

-- ---- the shown key

rotated-again : (n : ℕ) (k : List ℕ) → Block k → rotated (127 * n) (rotated n k) ≡ k
rotated-again n k p = rearranged-twice _ _ (λ i. i) (λ i h. omega arith) (λ i h. omega arith) k ∙ rearranged-same (λ i. i) k p (λ i h. refl)

pub encryption-turns : (n : ℕ) → Turn (encryption.shown_key n)
encryption-turns n = record {
  turn-injective = λ k l p q e.
      let m : ℕ = min (suc n) rounds in sym (rotated-again m k p) ∙ ap (rotated (127 * m)) e ∙ rotated-again m l q;
}

-- ---- a round needs no more than its lane

pub encryption-lanes : StageLanes encryption round_on_lane
unfolding lane_round
encryption-lanes = record {
  stage-lane = λ n l {key} {s} p q i.
      let own : suc n ≡ min (suc n) rounds = omega arith in
      let a : Block (s (next i)) = q (next i) in
      let b : Block (s (next (next i))) = q (next (next i)) in
      let k : Block (rotated (min (suc n) rounds) (key i)) = rearranged-block _ _ in
      go n key s i ∙ (λ z. lane_round n (is_first i) (s (next i)) (s (next (next i))) (rotated (own z) (key i)))
      ∙ sym (λ z. lane_round n (is_first i) (first_part a b k z) (second-part a b k z) (third-part a b k z));
}
  where
    go : (n : ℕ) (key s : Shares) (i : Index)
        → encryption.stage n key s i ≡ lane_round n (is_first i) (s (next i)) (s (next (next i))) (rotated (suc n) (key i))
    go n key s i₀ = refl
    go n key s i₁ = refl
    go n key s i₂ = refl
