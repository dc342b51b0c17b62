-- A run of shared calls, numbered from 1: each has a key, masks of its own on the tape, and an input made of earlier outputs.
-- Assumes nothing.
use Rattle.std.specs.Prelude.{cond, List, ℕ, zero, suc, ◌-◌, eqb}
use Rattle.blocks.specs.Bytes.{zeros}
use Rattle.masking.specs.Shares.{Index, Shares, add, Reader, masks_at}
use Rattle.masking.specs.Stages.{Stages, call, lane}

-- how many calls there are; and of call k: the shares of its key as they are given, where the masks c, d of that key stand, where the
-- call's own masks begin, and its input, of the outputs of the calls before it
pub record Run : Type 0 where
  pub count : ℕ
  pub given : ℕ → Shares
  pub key_at : ℕ → ℕ
  pub begins : ℕ → ℕ
  pub input : ℕ → (ℕ → Shares) → Shares

-- the run of calls of the stages D, with what is read of a tape
module _ (D : Stages) (R : Run) (M : Reader) where
  -- the shares of a call's key, masked
  unfoldable pub key_shares : ℕ → Shares
  key_shares k = add (R.given k) (masks_at M (R.key_at k))

  -- what call k makes, of earlier outputs f
  abbrev pub made : ℕ → (ℕ → Shares) → Shares
  made k f = call D (key_shares k) (R.input k f) M (R.begins k)

  -- the outputs of the first k calls by their numbers, and zeros for every other number
  unfoldable pub outputs : ℕ → ℕ → Shares
  outputs zero j = λ i. zeros
  outputs (suc k) j = cond (eqb j (suc k)) (made (suc k) (outputs k)) (outputs k j)

  -- a call's input, and its output
  unfoldable pub input_of : ℕ → Shares
  input_of k = R.input k (outputs (k - 1))

  unfoldable pub output_of : ℕ → Shares
  output_of k = call D (key_shares k) (input_of k) M (R.begins k)

  -- lane i of pair r of call k, pairs numbered from 1
  unfoldable pub lane_of : ℕ → ℕ → Index → List ℕ
  lane_of k r i = lane D (key_shares k) (input_of k) M (R.begins k) (r - 1) i
