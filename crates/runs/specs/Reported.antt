-- The words of the statements on lanes: of any run of calls, whatever is accepted and shown of it. Assumes nothing.
use Rattle.std.specs.Prelude.{◌≡◌, Bool, List, ℕ, ◌+◌, ◌-◌, ◌*◌, ◌%◌, ◌<◌, length}
use Rattle.blocks.specs.Bytes.{◌⊕◌, part}
use Rattle.masking.specs.Shares.{next, is_first, index_of, at, pair_size, masks_at}
use Rattle.masking.specs.Stages.{Stages, pairs}
use Rattle.masking.specs.OneTape.{lane_mask, Shows}
use Rattle.runs.specs.Run.{Run}
use Rattle.runs.specs.Lanes.{lane_size}

-- a run of calls, the tapes with which it is accepted, and the bytes that are shown with a tape of lane i of pair r of call k
pub record Reported : Type 1 where
  pub run : Run
  pub accepts : List ℕ → Type 0
  pub shown : List ℕ → ℕ → ℕ → ℕ → List ℕ

-- where the masks of pair r of call k stand, and lane i's key mask bytes
abbrev pub pair_at : Run → ℕ → ℕ → ℕ
pair_at R k r = R.begins k + pair_size * (r - 1)

abbrev pub key_mask_at : Run → ℕ → ℕ → ℕ
key_mask_at R k i = lane_mask (R.key_at k) (index_of i)

-- w is a tape of bytes, as long as t, that differs from it at most in the pair's 32 mask bytes and in the lane's 16 key mask bytes; with it
-- Q is accepted, and shows the lane that R shows with t
abbrev pub SameLane : Reported → Reported → List ℕ → ℕ → ℕ → ℕ → List ℕ → Type 0
SameLane R Q t k r i =
    Shows (key_mask_at R.run k i) (pair_at R.run k r) t (R.shown t k r i) Q.accepts (λ w. Q.shown w k r i)

-- the three lanes of a pair join to a state and a key
pub record Joined (lane : ℕ → List ℕ) (state key : List ℕ) : Type 0 where
  pub sized : (i : ℕ) → i < 3 → length (lane i) ≡ lane_size
  -- a state share stands in two lanes with the same bytes; so the first of each lane are the three distinct ones
  pub twice : (i : ℕ) → i < 3 → part 16 16 (lane i) ≡ part 0 16 (lane ((i + 1) % 3))
  -- they XOR to the state, and the key shares to the key
  pub states : part 0 16 (lane 0) ⊕ (part 0 16 (lane 1) ⊕ part 0 16 (lane 2)) ≡ state
  pub keys : part 32 16 (lane 0) ⊕ (part 32 16 (lane 1) ⊕ part 32 16 (lane 2)) ≡ key

-- the key shares of those lanes are the three that stand one behind the other in `key`, each with its mask, which stand at a on the tape:
-- c into share 0, d into share 1, c XOR d into share 2; each turned as the pair shows it
pub record OwnKeys (lane : ℕ → List ℕ) (turn : List ℕ → List ℕ) (key tape : List ℕ) (a : ℕ) : Type 0 where
  pub first : part 32 16 (lane 0) ≡ turn (part 0 16 key ⊕ part a 16 tape)
  pub second : part 32 16 (lane 1) ≡ turn (part 16 16 key ⊕ part (a + 16) 16 tape)
  pub third : part 32 16 (lane 2) ≡ turn (part 32 16 key ⊕ (part a 16 tape ⊕ part (a + 16) 16 tape))

-- call k of R with the tape t, whose stage n + 1 does `on_lane n` on a lane
module _ (D : Stages) (on_lane : ℕ → Bool → List ℕ → List ℕ) (R : Reported) (t : List ℕ) (k : ℕ) where
  -- what stage r makes of a share needs its lane alone: with the next pair's mask it is the share that the next pair's lane i shows first
  abbrev pub FollowsLane : ℕ → ℕ → Type 0
  FollowsLane r i = part 0 16 (R.shown t k (r + 1) i)
      ≡ on_lane (r - 1) (is_first (next (index_of i))) (R.shown t k r ((i + 1) % 3)) ⊕ masks_at (at t) (pair_at R.run k (r + 1)) (next (index_of i))

  -- share i of the three that stand one behind the other in `out` is the last stage done on lane i alone, XORed with its mask of the last
  -- pair: u, v or u XOR v
  abbrev pub OnLaneAlone : List ℕ → ℕ → Type 0
  OnLaneAlone out i = part (16 * i) 16 out
      ≡ on_lane (D.count - 1) (is_first (index_of i)) (R.shown t k D.count i) ⊕ masks_at (at t) (pair_at R.run k (pairs D)) (index_of i)

-- two by two those in `out` are the state shares of the three lanes
abbrev pub ShownByLanes : (ℕ → List ℕ) → List ℕ → ℕ → Type 0
ShownByLanes lane out i =
    (part 0 16 (lane i) ≡ part (16 * ((i + 1) % 3)) 16 out) × (part 16 16 (lane i) ≡ part (16 * ((i + 2) % 3)) 16 out)
