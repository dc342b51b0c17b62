-- A job on shares, in numbered calls: CTR under KE, and CMAC under KM of counter block 0 and a ciphertext. Assumes nothing.
use Rattle.std.specs.Prelude.{cond, List, ℕ, zero, suc, ◌%◌, eqb, length}
use Rattle.blocks.specs.Bytes.{zeros, block_count}
use Rattle.modes.specs.Ctr as Ctr
use Rattle.modes.specs.Cmac.{doubled, padded}
use Rattle.links.specs.Record.{counter_block}
use Rattle.masking.specs.Shares.{Shares, join, add, each, only, shares_in, Reader}
use Rattle.masking.specs.Call.{encryption}
use Rattle.runs.specs.Run.{Run, output_of}
use Rattle.calls.specs.Numbered.{Call, ctr, sub, mac, Order, call_number, call_of, call_count, of_key, key_at, call_at}

-- a block, padded where it is not complete
abbrev pub completed : List ℕ → List ℕ
completed p = cond (eqb (length p) 16) p (padded p)

-- of CMAC's L, the last block's subkey for a ciphertext of n bytes: doubled once where that block is complete, else twice
abbrev pub last_key : ℕ → List ℕ → List ℕ
last_key n l = cond (eqb (n % 16) 0) (doubled l) (doubled (doubled l))

-- the three shares of KE and of KM, the link number and the sequence number, the order of the calls, the bytes of the ciphertext; and its
-- block j, padded where it is not complete, of the outputs of earlier calls by their numbers
pub record Job : Type 0 where
  pub ke : List ℕ
  pub km : List ℕ
  pub number : ℕ
  pub sequence : ℕ
  pub order : Order
  pub size : ℕ
  pub block : ℕ → (ℕ → Shares) → Shares

module _ (J : Job) where
  abbrev pub count : ℕ
  count = block_count J.size

  -- the number of a call, and the call with a number
  abbrev pub place_of : Call → ℕ
  place_of = call_number J.order count

  abbrev pub call_in : ℕ → Call
  call_in = call_of J.order count

  abbrev pub counter : ℕ → List ℕ
  counter i = counter_block J.number J.sequence i

  -- ---- what the calls take in, of the outputs f of earlier calls by their numbers

  -- block j of what is authenticated: counter block 0, then the ciphertext
  unfoldable pub mac_block : (ℕ → Shares) → ℕ → Shares
  mac_block f zero = only (counter 0)
  mac_block f (suc j) = J.block j f

  -- the chain before block j: three zero shares, then what CMAC's call for the block before made
  unfoldable pub chain : (ℕ → Shares) → ℕ → Shares
  chain f zero = λ i. zeros
  chain f (suc j) = f (place_of (mac j))

  -- the last block's subkey, made share by share
  unfoldable pub subkey : (ℕ → Shares) → Shares
  subkey f = each (last_key J.size) (f (place_of sub))

  unfoldable pub input_from : Call → (ℕ → Shares) → Shares
  input_from (ctr j) f = only (counter j)
  input_from sub f = λ i. zeros
  input_from (mac j) f = add (chain f j) (cond (eqb j count) (add (subkey f) (mac_block f j)) (mac_block f j))

  -- ---- the calls

  abbrev pub job_calls : Run
  job_calls = record {
    count = call_count count;
    given = λ k. shares_in (of_key J.ke J.km (call_in k));
    key_at = λ k. key_at (call_in k);
    begins = call_at;
    input = λ k. input_from (call_in k);
  }

  -- ---- what they make, with what is read of a tape

  module _ (M : Reader) where
    -- the output shares of CTR's call for block j, and of CMAC's for the last
    abbrev pub ctr_out : ℕ → Shares
    ctr_out j = output_of encryption job_calls M (place_of (ctr j))

    abbrev pub code_shares : Shares
    code_shares = output_of encryption job_calls M (place_of (mac count))

    -- CTR of a text with the joined outputs for its output blocks
    unfoldable pub crypt : List ℕ → List ℕ
    crypt text = Ctr.ctr (λ b. b) (λ j. join (ctr_out j)) text
