-- The output shares of CTR's calls, and CMAC's blocks made of them. Assumes nothing.
use Rattle.std.specs.Prelude.{List, [], ℕ, zero, suc, slice_index_or}
use Rattle.links.specs.Record.{counter_block}
use Rattle.masking.specs.Shares.{Shares, only, shares_in}
use Rattle.calls.specs.Sealed.{text_block}

-- the output shares of the call for block j
abbrev pub out_at : ℕ → List (List ℕ) → Shares
out_at j o = shares_in (slice_index_or o j [])

-- block j of what is authenticated, under the link number n and the sequence number s, with the output shares in o
abbrev pub block_shares : ℕ → ℕ → List ℕ → List (List ℕ) → ℕ → Shares
block_shares n s m o zero = only (counter_block n s 0)
block_shares n s m o (suc j) = text_block m j (out_at j o)
