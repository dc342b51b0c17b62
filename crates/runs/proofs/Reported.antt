-- Of any run of calls whose lanes are shown: what the three of a pair join to, that a stage needs its lane alone, that the last pair shows
-- the output; and of two, that exactly one tape shows with the second the lane seen with the first. Assumes nothing.
use Rattle.prelude.proofs.{◌≡◌, sym, ap, ap₂, ◌∙◌, Bool, List, ℕ, suc, ◌+◌, ◌-◌, ◌*◌, ◌%◌, ◌≤◌, ◌<◌, arith, length}
use Rattle.blocks.specs.Bytes.{Bytes, ◌⊕◌, part}
use Rattle.masking.specs.Shares.{next, is_first, index_of, Shares, Blocks, join, shares_in, flat, at, pair_size, masks_at}
use Rattle.masking.specs.Stages.{Stages, masks_size, pairs, masked, lane, shown_shares, PlainStages, plain_after}
use Rattle.masking.specs.OneTape.{ExactlyOne}
use Rattle.masking.proofs.Lane.{index-next, index-after, part-flat, parts-length, lane-next, lane-after, lane-key, StageLanes, masked-lane, lane-follows}
use Rattle.masking.proofs.{Shape.Reads, Shape.StageBlocks, Joins.StageJoins, Probe.Turn, Tape.at_reads, MaskedCall.one-accepted}
use Rattle.runs.specs.Run.{Run, key_shares, input_of, output_of, lane_of}
use Rattle.runs.specs.Reported.{Reported, pair_at, SameLane, Joined, OwnKeys, FollowsLane, OnLaneAlone, ShownByLanes}
use Rattle.runs.proofs.Run.{Placed, RunBlocks, InputsJoin, key-blocks, input-blocks, output-blocks, states-join, keys-join}
use Rattle.runs.proofs.Run.{lane-length, lane-twice}
use Rattle.runs.proofs.OneTape.{one-tape-run}

-- with a tape of bytes with which it is accepted the lanes of its run are shown, and the tape has all masks of its calls
pub record ShowsLanes (D : Stages) (R : Reported) : Type 0 where
  pub placed : Placed D R.run
  pub blocks : RunBlocks R.run
  pub long : {t : List ℕ} → R.accepts t → (k : ℕ) → 1 ≤ k → k ≤ R.run.count → R.run.begins k + masks_size D ≤ length t
  pub lanes : {t : List ℕ} → Bytes t → R.accepts t → (k r i : ℕ) → 1 ≤ k → k ≤ R.run.count → 1 ≤ r → r ≤ pairs D → i < 3
      → R.shown t k r i ≡ lane_of D R.run (at t) k r (index_of i)

-- so they are where less is accepted
pub shows-less : {D : Stages} {R : Reported} → ShowsLanes D R → (accepts : List ℕ → Type 0) → ((t : List ℕ) → accepts t → R.accepts t)
    → ShowsLanes D (record { run = R.run; accepts = accepts; shown = R.shown })
shows-less S accepts less = record {
  placed = S.placed;
  blocks = S.blocks;
  long = λ {t} A. S.long (less t A);
  lanes = λ {t} b A. S.lanes b (less t A);
}

-- the same lanes join to what is the same state and key
pub joined_as : {lane : ℕ → List ℕ} {state state' key key' : List ℕ} → state ≡ state' → key ≡ key' → Joined lane state key
    → Joined lane state' key'
joined_as e d J = record { sized = J.sized; twice = J.twice; states = J.states ∙ e; keys = J.keys ∙ d }

module _ {D : Stages} (W : StageBlocks D) {R : Reported} (S : ShowsLanes D R) {t : List ℕ} (b : Bytes t) (A : R.accepts t)
    (k : ℕ) (k₁ : 1 ≤ k) (kₙ : k ≤ R.run.count) where
  abbrev Q : Run
  Q = R.run

  all : Reads (at t) (Q.begins k + masks_size D)
  all = at_reads t _ b (S.long A k k₁ kₙ)

  keys : Blocks (key_shares D Q (at t) k)
  keys = key-blocks S.placed W S.blocks (at t) k _ (omega arith) all

  inputs : Blocks (input_of D Q (at t) k)
  inputs = input-blocks S.placed W S.blocks (at t) k _ k₁ (omega arith) all

  -- ---- the lanes of pair r

  module _ (r : ℕ) (r₁ : 1 ≤ r) (rₙ : r ≤ pairs D) where
    masks : Reads (at t) (Q.begins k + pair_size * (r - 1) + pair_size)
    masks p h = all p (omega arith)

    shown : (i : ℕ) → i < 3 → R.shown t k r i ≡ lane_of D Q (at t) k r (index_of i)
    shown i l = S.lanes b A k r i k₁ kₙ r₁ rₙ l

    pub joined : {P : PlainStages} → StageJoins D P → (plain : ℕ → List ℕ) → InputsJoin D Q P plain
        → Joined (R.shown t k r) (plain_after P (join (Q.given k)) (plain k) (r - 1)) (D.shown_key (r - 1) (join (Q.given k)))
    unfolding join
    joined J plain joins = record {
      sized = λ i l. ap length (shown i l) ∙ lane-length S.placed W S.blocks (at t) k r k₁ masks (index_of i);
      twice = λ i l.
          ap (part 16 16) (shown i l)
          ∙ lane-twice S.placed W S.blocks (at t) k r k₁ masks (index_of i)
          ∙ ap (part 0 16) (ap (lane_of D Q (at t) k r) (sym (index-next i l)) ∙ sym (shown ((i + 1) % 3) (omega arith)));
      states = parts 0 ∙ states-join S.placed W S.blocks (at t) J plain joins k r k₁ kₙ masks;
      keys = parts 32 ∙ keys-join S.placed W S.blocks (at t) J plain joins k r k₁ kₙ masks;
    }
      where
        parts : (p : ℕ)
            → part p 16 (R.shown t k r 0) ⊕ (part p 16 (R.shown t k r 1) ⊕ part p 16 (R.shown t k r 2))
            ≡ join (λ i. part p 16 (lane_of D Q (at t) k r i))
        parts p = λ z.
            part p 16 (shown 0 (omega arith) z) ⊕ (part p 16 (shown 1 (omega arith) z) ⊕ part p 16 (shown 2 (omega arith) z))

    key-shown : (i : ℕ) → i < 3 → part 32 16 (R.shown t k r i) ≡ D.shown_key (r - 1) (key_shares D Q (at t) k (index_of i))
    unfolding lane_of shown_shares
    key-shown i l = ap (part 32 16) (shown i l) ∙ lane-key W (at t) (Q.begins k) (r - 1) keys inputs masks (index_of i)

    -- the key shares that they show are those given, each with its mask
    pub owned : (key : List ℕ) → Q.given k ≡ shares_in key → OwnKeys (R.shown t k r) (D.shown_key (r - 1)) key t (Q.key_at k)
    unfolding key_shares at
    owned key e = record {
      first = key-shown 0 (omega arith) ∙ (λ z. turned (e z) 0);
      second = key-shown 1 (omega arith) ∙ (λ z. turned (e z) 1);
      third = key-shown 2 (omega arith) ∙ (λ z. turned (e z) 2);
    }
      where
        turned : Shares → ℕ → List ℕ
        turned s i = D.shown_key (r - 1) (s (index_of i) ⊕ masks_at (at t) (Q.key_at k) (index_of i))

  -- ---- from pair to pair, and the last one, which shows the output

  module _ {on_lane : ℕ → Bool → List ℕ → List ℕ} (L : StageLanes D on_lane) where
    pub followed : (r i : ℕ) → 1 ≤ r → r < pairs D → i < 3 → FollowsLane D on_lane R t k r i
    unfolding lane_of
    followed r i r₁ rₙ l =
        let up : r + 1 - 1 ≡ suc (r - 1) = omega arith in
        ap (part 0 16) (shown (r + 1) (omega arith) (omega arith) i l
        ∙ ap (λ (q : ℕ). lane D (key_shares D Q (at t) k) (input_of D Q (at t) k) (at t) (Q.begins k) q (index_of i)) up)
        ∙ lane-follows W L (at t) (Q.begins k) (r - 1) (omega arith) keys inputs (λ p h. all p (omega arith)) (index_of i)
        ∙ ap₂ (λ (s : List ℕ) (q : ℕ).
        on_lane (r - 1) (is_first (next (index_of i))) s ⊕ masks_at (at t) (Q.begins k + pair_size * q) (next (index_of i)))
        (ap (lane_of D Q (at t) k r) (sym (index-next i l)) ∙ sym (shown r r₁ (omega arith) ((i + 1) % 3) (omega arith)))
        (sym up)

    output-lane : 1 ≤ D.count → (i : ℕ) → i < 3 → output_of D Q (at t) k (index_of i)
        ≡ on_lane (D.count - 1) (is_first (index_of i)) (R.shown t k D.count i) ⊕ masks_at (at t) (pair_at Q k (pairs D)) (index_of i)
    unfolding output_of lane_of
    output-lane c i l =
        let up : D.count ≡ suc (D.count - 1) = omega arith in
        let last : suc (D.count - 1) ≡ pairs D - 1 = omega arith in
        ap (λ (q : ℕ). call_at q (index_of i)) up
        ∙ masked-lane W L (at t) (Q.begins k) (D.count - 1) (omega arith) keys inputs (λ p h. all p (omega arith)) (index_of i)
        ∙ ap₂ (λ (s : List ℕ) (q : ℕ).
        on_lane (D.count - 1) (is_first (index_of i)) s ⊕ masks_at (at t) (Q.begins k + pair_size * q) (index_of i))
        (sym (shown D.count c (omega arith) i l)) last
      where
        call_at : ℕ → Shares
        call_at q = masked D (key_shares D Q (at t) k) (input_of D Q (at t) k) (at t) (Q.begins k) q

  output-blocks-here : Blocks (output_of D Q (at t) k)
  output-blocks-here = output-blocks S.placed W S.blocks (at t) k k₁ all

  pub output-shown : (i : ℕ) → i < 3 → let out = output_of D Q (at t) k in let s = R.shown t k (pairs D) i in
      (part 0 16 s ≡ out (next (index_of i))) × (part 16 16 s ≡ out (next (next (index_of i))))
  unfolding output_of lane_of
  output-shown i l =
      let down : pairs D - 1 ≡ D.count = omega arith in
      let last = shown (pairs D) (omega arith) (omega arith) i l
      ∙ ap (λ (q : ℕ). lane D (key_shares D Q (at t) k) (input_of D Q (at t) k) (at t) (Q.begins k) q (index_of i)) down in
      let whole : Reads (at t) (Q.begins k + pair_size * D.count + pair_size) = λ p h. all p (omega arith) in (
        ap (part 0 16) last ∙ lane-next W (at t) (Q.begins k) D.count keys inputs whole (index_of i),
        ap (part 16 16) last ∙ lane-after W (at t) (Q.begins k) D.count keys inputs whole (index_of i),
      )

  -- ---- the output's shares, one behind the other

  pub output-size : length (flat (output_of D Q (at t) k)) ≡ 48
  output-size = parts-length (output-blocks-here _) (output-blocks-here _) (output-blocks-here _)

  module _ {out : List ℕ} (e : out ≡ flat (output_of D Q (at t) k)) where
    share : (i : ℕ) → i < 3 → part (16 * i) 16 out ≡ output_of D Q (at t) k (index_of i)
    share i l = ap (part (16 * i) 16) e ∙ part-flat (output_of D Q (at t) k) output-blocks-here i l

    pub on-lane-alone : {on_lane : ℕ → Bool → List ℕ → List ℕ} → StageLanes D on_lane → 1 ≤ D.count → (i : ℕ) → i < 3
        → OnLaneAlone D on_lane R t k out i
    on-lane-alone L c i l = share i l ∙ output-lane L c i l

    pub shown-by-lanes : (i : ℕ) → i < 3 → ShownByLanes (R.shown t k (pairs D)) out i
    shown-by-lanes i l =
        let s = output-shown i l in (
          s.0 ∙ ap (output_of D Q (at t) k) (sym (index-next i l)) ∙ sym (share ((i + 1) % 3) (omega arith)),
          s.1 ∙ ap (output_of D Q (at t) k) (sym (index-after i l)) ∙ sym (share ((i + 2) % 3) (omega arith)),
        )

-- ---- two runs with as many calls and their masks in the same places

pub exactly-one : {D : Stages} → StageBlocks D → ((n : ℕ) → Turn (D.shown_key n)) → {R Q : Reported} → ShowsLanes D R → ShowsLanes D Q
    → {t : List ℕ} → Bytes t → R.accepts t → ((w : List ℕ) → Bytes w → length w ≡ length t → Q.accepts w)
    → (k r i : ℕ) → Q.run.count ≡ R.run.count → Q.run.key_at k ≡ R.run.key_at k → Q.run.begins k ≡ R.run.begins k
    → 1 ≤ k → k ≤ R.run.count → 1 ≤ r → r ≤ pairs D → i < 3 → ExactlyOne (SameLane R Q t k r i)
exactly-one {D} W turns {R} {Q} S T {t} b A accepts k r i same ea eo k₁ kₙ r₁ rₙ l =
    one-accepted (S.lanes b A k r i k₁ kₙ r₁ rₙ l) accepts (λ w bw B. T.lanes bw B k r i k₁ (omega (arith, same)) r₁ rₙ l)
    (one-tape-run W k k₁ turns S.placed S.blocks T.placed T.blocks ea eo r t b (omega (arith, S.long A k k₁ kₙ)) (index_of i))
