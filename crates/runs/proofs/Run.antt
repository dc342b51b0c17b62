-- The calls of a run, over any stages: their shares are blocks, hang on the tape before their masks, and join to plain calls.
-- Assumes nothing.
use Rattle.prelude.proofs.{◌≡◌, refl, ap, ◌∙◌, Bool, true, false, cond, List, ℕ, zero, suc, ◌+◌, ◌-◌, ◌*◌, ◌≤◌, ◌<◌, ℕ_discrete, arith, eqb}
use Rattle.prelude.proofs.{length, eq-eqb, ne_eqb}
use Rattle.blocks.specs.Bytes.{part}
use Rattle.blocks.proofs.Xor.{zeros-block}
use Rattle.masking.specs.Shares.{Index, next, Shares, Blocks, join, add, Reader, pair_size}
use Rattle.masking.specs.Stages.{Stages, masks_size, PlainStages, plain_after}
use Rattle.masking.proofs.Shape.{Reads, add-blocks, masks_at-blocks, StageBlocks, call-blocks}
use Rattle.masking.proofs.Causal.{Agree, masks_at-agree, call-agree, lane-agree}
use Rattle.masking.proofs.Joins.{join-masks_at, StageJoins, call-join}
use Rattle.masking.proofs.Lane as Lane
use Rattle.runs.specs.Run.{Run, key_shares, made, outputs, input_of, output_of, lane_of}

-- the masks of keys stand before those of calls, and those of a call before those of a later one
pub record Placed (D : Stages) (R : Run) : Type 0 where
  pub keys-before : (j k : ℕ) → R.key_at j + pair_size ≤ R.begins k
  pub calls-apart : (j k : ℕ) → 1 ≤ j → j < k → R.begins j + masks_size D ≤ R.begins k

-- keys are blocks, and inputs are blocks of blocks
pub record RunBlocks (R : Run) : Type 0 where
  pub given-blocks : (k : ℕ) → Blocks (R.given k)
  pub input-blocks : (k : ℕ) (f : ℕ → Shares) → ((j : ℕ) → Blocks (f j)) → Blocks (R.input k f)

-- their inputs join to plain ones, where the outputs before them join to what the plain cipher P makes of these
abbrev pub InputsJoin : Stages → Run → PlainStages → (ℕ → List ℕ) → Type 0
InputsJoin D R P plain = (k : ℕ) → 1 ≤ k → k ≤ R.count → (f : ℕ → Shares) → ((j : ℕ) → Blocks (f j))
    → ((j : ℕ) → 1 ≤ j → j < k → join (f j) ≡ plain_after P (join (R.given j)) (plain j) D.count) → join (R.input k f) ≡ plain k

cond-blocks : (t : Bool) {s u : Shares} → Blocks s → Blocks u → Blocks (cond t s u)
cond-blocks true p q = p
cond-blocks false p q = q

-- the output of a call that is done
pub output-at : (D : Stages) (R : Run) (M : Reader) (k j : ℕ) → 1 ≤ j → j ≤ k → outputs D R M k j ≡ output_of D R M j
unfolding outputs output_of input_of
output-at D R M zero j l h = absurd (omega arith)
output-at D R M (suc k) j l h = elim (ℕ_discrete j (suc k)) [
  | yes e ↦
      let d : k ≡ j - 1 = omega arith in
      rw (eq-eqb j (suc k) e) (λ z. made D R M (e' e z) (outputs D R M (d z)))
  | no e ↦ rw (ne_eqb j (suc k) e) (output-at D R M k j l (omega arith))
]
  where
    e' : j ≡ suc k → suc k ≡ j
    e' e = omega arith

module _ {D : Stages} {R : Run} (L : Placed D R) where
  -- the end of call k's masks lies at o or before it; so do those of the calls before it
  earlier : (k o : ℕ) → (1 ≤ suc k → R.begins (suc k) + masks_size D ≤ o) → 1 ≤ k → R.begins k + masks_size D ≤ o
  earlier k o h l = omega (arith, L.calls-apart k (suc k) l (omega arith), h (omega arith))

  -- call k's masks begin behind the calls before it
  behind : (k : ℕ) → 1 ≤ k → 1 ≤ k - 1 → R.begins (k - 1) + masks_size D ≤ R.begins k
  behind k l h = L.calls-apart (k - 1) k h (omega arith)

  -- ---- causality

  module _ (M N : Reader) where
    pub key-agree : (k o : ℕ) → R.begins k ≤ o → Agree M N o → key_shares D R M k ≡ key_shares D R N k
    unfolding key_shares
    key-agree k o l h = ap (add (R.given k)) (masks_at-agree M N (R.key_at k) (λ p q. h p (omega (arith, L.keys-before k k))))

    outputs-agree : (o : ℕ) → Agree M N o → (k : ℕ) → (1 ≤ k → R.begins k + masks_size D ≤ o) → outputs D R M k ≡ outputs D R N k
    unfolding outputs
    outputs-agree o h zero l = refl
    outputs-agree o h (suc k) l =
        let end = l (omega arith) in
        let before : outputs D R M k ≡ outputs D R N k = outputs-agree o h k (earlier k o l) in
        let here = call-agree D M N (R.begins (suc k)) (key-agree (suc k) o (omega arith) h) (ap (R.input (suc k)) before)
        (λ p q. h p (omega arith)) in
        λ z j. cond (eqb j (suc k)) (here z) (before z j)

    pub input-agree : (k : ℕ) → 1 ≤ k → Agree M N (R.begins k) → input_of D R M k ≡ input_of D R N k
    unfolding input_of
    input-agree k l h = ap (R.input k) (outputs-agree (R.begins k) h (k - 1) (behind k l))

    pub output-agree : (k : ℕ) → 1 ≤ k → Agree M N (R.begins k + masks_size D) → output_of D R M k ≡ output_of D R N k
    unfolding output_of
    output-agree k l h =
        call-agree D M N (R.begins k) (key-agree k _ (omega arith) h) (input-agree k l (λ p q. h p (omega arith))) h

    pub lane-agrees : (k r : ℕ) → 1 ≤ k → Agree M N (R.begins k + pair_size * (r - 1) + pair_size) → (i : Index)
        → lane_of D R M k r i ≡ lane_of D R N k r i
    unfolding lane_of
    lane-agrees k r l h i =
        lane-agree D M N (R.begins k) (key-agree k _ (omega arith) h) (input-agree k l (λ p q. h p (omega arith))) (r - 1) h i

  -- ---- blocks

  module _ (W : StageBlocks D) (B : RunBlocks R) (M : Reader) where
    pub key-blocks : (k o : ℕ) → R.begins k ≤ o → Reads M o → Blocks (key_shares D R M k)
    unfolding key_shares
    key-blocks k o l h = add-blocks (B.given-blocks k) (masks_at-blocks M (R.key_at k) (λ p q. h p (omega (arith, L.keys-before k k))))

    outputs-blocks : (o : ℕ) → Reads M o → (k : ℕ) → (1 ≤ k → R.begins k + masks_size D ≤ o) → (j : ℕ) → Blocks (outputs D R M k j)
    unfolding outputs
    outputs-blocks o h zero l j = λ i. zeros-block
    outputs-blocks o h (suc k) l j =
        let end = l (omega arith) in
        let before = outputs-blocks o h k (earlier k o l) in
        cond-blocks (eqb j (suc k))
        (call-blocks W M (R.begins (suc k)) (key-blocks (suc k) o (omega arith) h) (B.input-blocks (suc k) (outputs D R M k) before)
        (λ p q. h p (omega arith)))
        (before j)

    pub input-blocks : (k o : ℕ) → 1 ≤ k → R.begins k ≤ o → Reads M o → Blocks (input_of D R M k)
    unfolding input_of
    input-blocks k o l g h =
        B.input-blocks k (outputs D R M (k - 1)) (outputs-blocks o h (k - 1) (λ q. let end = behind k l q in omega arith))

    pub output-blocks : (k : ℕ) → 1 ≤ k → Reads M (R.begins k + masks_size D) → Blocks (output_of D R M k)
    unfolding output_of
    output-blocks k l h =
        call-blocks W M (R.begins k) (key-blocks k _ (omega arith) h) (input-blocks k _ l (omega arith) h) h

    -- ---- joined

    module _ {P : PlainStages} (J : StageJoins D P) (plain : ℕ → List ℕ) (joins : InputsJoin D R P plain) where
      -- the plain output of call k
      abbrev plain_out : ℕ → List ℕ
      plain_out k = plain_after P (join (R.given k)) (plain k) D.count

      pub key-join : (k o : ℕ) → R.begins k ≤ o → Reads M o → join (key_shares D R M k) ≡ join (R.given k)
      unfolding key_shares
      key-join k o l h = join-masks_at M (R.key_at k) (B.given-blocks k) (λ p q. h p (omega (arith, L.keys-before k k)))

      made-join : (k o : ℕ) → Reads M o → suc k ≤ R.count → R.begins (suc k) + masks_size D ≤ o → (f : ℕ → Shares)
          → ((j : ℕ) → Blocks (f j))
          → ((j : ℕ) → 1 ≤ j → j ≤ k → join (f j) ≡ plain_out j) → join (made D R M (suc k) f) ≡ plain_out (suc k)
      made-join k o h n end f fb fj =
          call-join W J M (R.begins (suc k)) (key-blocks (suc k) o (omega arith) h) (B.input-blocks (suc k) f fb)
          (λ p q. h p (omega arith))
          ∙ (λ z. plain_after P (key-join (suc k) o (omega arith) h z)
          (joins (suc k) (omega arith) n f fb (λ j j₁ q. fj j j₁ (omega arith)) z) D.count)

      outputs-join : (o : ℕ) → Reads M o → (k : ℕ) → k ≤ R.count → (1 ≤ k → R.begins k + masks_size D ≤ o)
          → (j : ℕ) → 1 ≤ j → j ≤ k → join (outputs D R M k j) ≡ plain_out j
      unfolding outputs
      outputs-join o h zero n l j j₁ jₖ = absurd (omega arith)
      outputs-join o h (suc k) n l j j₁ jₖ =
          let before = outputs-join o h k (omega arith) (earlier k o l) in
          elim (ℕ_discrete j (suc k)) [
            | yes e ↦ rw (eq-eqb j (suc k) e, e)
                (made-join k o h n (l (omega arith)) (outputs D R M k) (outputs-blocks o h k (earlier k o l)) before)
            | no e ↦ rw (ne_eqb j (suc k) e) (before j j₁ (omega arith))
          ]

      pub input-join : (k o : ℕ) → 1 ≤ k → k ≤ R.count → R.begins k ≤ o → Reads M o → join (input_of D R M k) ≡ plain k
      unfolding input_of
      input-join k o l n g h =
          let last : 1 ≤ k - 1 → R.begins (k - 1) + masks_size D ≤ o = λ q. let end = behind k l q in omega arith in
          joins k l n (outputs D R M (k - 1)) (outputs-blocks o h (k - 1) last)
          (λ j j₁ q. outputs-join o h (k - 1) (omega arith) last j j₁ (omega arith))

      pub output-join : (k : ℕ) → 1 ≤ k → k ≤ R.count → Reads M (R.begins k + masks_size D) → join (output_of D R M k) ≡ plain_out k
      unfolding output_of
      output-join k l n h =
          call-join W J M (R.begins k) (key-blocks k _ (omega arith) h) (input-blocks k _ l (omega arith) h) h
          ∙ (λ z. plain_after P (key-join k _ (omega arith) h z) (input-join k _ l n (omega arith) h z) D.count)

      -- ---- the lanes of pair r of call k: the state there, and the key that it shows

      module _ (k r : ℕ) (l : 1 ≤ k) (n : k ≤ R.count) (h : Reads M (R.begins k + pair_size * (r - 1) + pair_size)) where
        pub states-join : join (λ i. part 0 16 (lane_of D R M k r i)) ≡ plain_after P (join (R.given k)) (plain k) (r - 1)
        unfolding lane_of
        states-join =
            Lane.states-join W M (R.begins k) (r - 1) (key-blocks k _ (omega arith) h) (input-blocks k _ l (omega arith) h) h J
            ∙ (λ z. plain_after P (key-join k _ (omega arith) h z) (input-join k _ l n (omega arith) h z) (r - 1))

        pub keys-join : join (λ i. part 32 16 (lane_of D R M k r i)) ≡ D.shown_key (r - 1) (join (R.given k))
        unfolding lane_of
        keys-join =
            Lane.keys-join W M (R.begins k) (r - 1) (key-blocks k _ (omega arith) h) (input-blocks k _ l (omega arith) h) h J
            ∙ ap (D.shown_key (r - 1)) (key-join k _ (omega arith) h)

    module _ (k r : ℕ) (l : 1 ≤ k) (h : Reads M (R.begins k + pair_size * (r - 1) + pair_size)) where
      pub lane-length : (i : Index) → length (lane_of D R M k r i) ≡ 48
      unfolding lane_of
      lane-length = Lane.lane-length W M (R.begins k) (r - 1) (key-blocks k _ (omega arith) h) (input-blocks k _ l (omega arith) h) h

      pub lane-twice : (i : Index) → part 16 16 (lane_of D R M k r i) ≡ part 0 16 (lane_of D R M k r (next i))
      unfolding lane_of
      lane-twice = Lane.lane-twice W M (R.begins k) (r - 1) (key-blocks k _ (omega arith) h) (input-blocks k _ l (omega arith) h) h
