-- The numbered calls of a job on shares: of n blocks, n calls are CTR's, one makes the subkeys, n + 1 are CMAC's. Assumes nothing.
use Rattle.std.specs.Prelude.{◌≡◌, cond, ◌&&◌, ℕ, ◌+◌, ◌-◌, ◌*◌, ◌≤◌, ◌<◌, eqb, leb}
use Rattle.blocks.specs.Bytes.{block_count}
use Rattle.masking.specs.Shares.{pair_size}
use Rattle.masking.specs.Call.{call_size}

-- CTR of block j, the subkeys', CMAC of block j, counted from 0
pub data Call : Type 0 where
  ctr : ℕ → Call
  sub : Call
  mac : ℕ → Call

-- the order of the calls for n blocks: how many calls stand before CTR's, and how many before the subkeys', which CMAC's follow
pub record Order : Type 0 where
  pub before_ctr : ℕ → ℕ
  pub before_mac : ℕ → ℕ

-- CTR's calls come first, and CMAC's behind them
abbrev pub ctr_first : Order
ctr_first = record { before_ctr = λ n. 0; before_mac = λ n. n }

module _ (o : Order) (n : ℕ) where
  abbrev pub call_number : Call → ℕ
  call_number (ctr j) = o.before_ctr n + (1 + j)
  call_number sub = o.before_mac n + 1
  call_number (mac j) = o.before_mac n + (2 + j)

  -- the call with a number
  unfoldable pub call_of : ℕ → Call
  call_of k =
      let b = o.before_mac n in
      cond (leb (b + 1) k && leb k (b + (2 + n))) (cond (eqb k (b + 1)) sub (mac (k - (b + 2)))) (ctr (k - (o.before_ctr n + 1)))

-- c is one of the calls for n blocks
abbrev pub IsCall : ℕ → Call → Type 0
IsCall n (ctr j) = j < n
IsCall n sub = Unit {0}
IsCall n (mac j) = j ≤ n

-- the calls for n blocks fill the numbers from 1 on: CMAC's follow CTR's, or CTR's follow CMAC's
pub data Fills (o : Order) (n : ℕ) : Type 0 where
  mac-behind : o.before_ctr n ≡ 0 → o.before_mac n ≡ n → Fills o n
  ctr-behind : o.before_mac n ≡ 0 → o.before_ctr n ≡ n + 2 → Fills o n

abbrev pub call_count : ℕ → ℕ
call_count n = 2 * n + 2

-- of two things, one for each key, that of a call's key
abbrev pub of_key {ℓ} : {A : Type ℓ} → A → A → Call → A
of_key e m (ctr j) = e
of_key e m sub = m
of_key e m (mac j) = m

-- ---- the tape

-- where the masks c, d of a call's key stand, and where the masks of the call numbered k begin
abbrev pub key_at : Call → ℕ
key_at = of_key 0 pair_size

abbrev pub call_at : ℕ → ℕ
call_at k = 2 * pair_size + call_size * (k - 1)

-- the bytes that a job for m bytes reads
abbrev pub tape_need : ℕ → ℕ
tape_need m = 2 * pair_size + call_size * call_count (block_count m)
