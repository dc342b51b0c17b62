-- A call on three shares, over a description of its stages. Assumes nothing.
use Rattle.std.specs.Prelude.{List, ◌++◌, ℕ, zero, suc, ◌+◌, ◌*◌}
use Rattle.masking.specs.Shares.{Index, next, Shares, add, each, Reader, pair_size, masks_at}

-- how a call goes: the shares that it starts from, of those of key and input; what stage n + 1 makes, under the key's shares, of masked
-- ones; how many stages there are; and how a share of the key is shown with pair n + 1 of the masks. A pair goes into the shares before
-- each stage, and one into the output
pub record Stages : Type 0 where
  pub start : Shares → Shares → Shares
  pub stage : ℕ → Shares → Shares → Shares
  pub count : ℕ
  pub shown_key : ℕ → List ℕ → List ℕ

-- the pairs of masks of a call, and their bytes
abbrev pub pairs : Stages → ℕ
pairs D = suc D.count

abbrev pub masks_size : Stages → ℕ
masks_size D = pair_size * pairs D

-- a call of key shares and input shares, whose masks begin at o on the tape
module _ (D : Stages) (key input : Shares) (M : Reader) (o : ℕ) where
  -- the shares after n stages
  unfoldable pub state : ℕ → Shares
  state zero = D.start key input
  state (suc n) = D.stage n key (add (state n) (masks_at M (o + pair_size * n)))

  -- pair n + 1: the shares just after its masks, and the shares of the key that it shows
  unfoldable pub masked : ℕ → Shares
  masked n = add (state n) (masks_at M (o + pair_size * n))

  unfoldable pub shown_shares : ℕ → Shares
  shown_shares n = each (D.shown_key n) key

  -- its lane i: state shares i + 1 and i + 2, then key share i
  unfoldable pub lane : ℕ → Index → List ℕ
  lane n i = masked n (next i) ++ (masked n (next (next i)) ++ shown_shares n i)

  -- the output: the shares after all stages, with the last pair
  abbrev pub call : Shares
  call = masked D.count

-- ---- the plain cipher's steps that stages join to

-- the state that it starts from, of key and input, and what stage n + 1 makes of it under the key
pub record PlainStages : Type 0 where
  pub start : List ℕ → List ℕ → List ℕ
  pub stage : ℕ → List ℕ → List ℕ → List ℕ

-- its state after n stages
unfoldable pub plain_after : PlainStages → List ℕ → List ℕ → ℕ → List ℕ
plain_after P key input zero = P.start key input
plain_after P key input (suc n) = P.stage n key (plain_after P key input n)
