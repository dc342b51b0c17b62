-- The path through the calls of a job, as the code takes it: what each piece of it does for every job that it can be a piece of.
-- Assumes nothing.
use Rattle.std.specs.Prelude.{◌≡◌, List, ℕ, suc, ◌+◌, ◌-◌, ◌*◌, ◌^◌, ◌≤◌, ◌<◌, length}
use Rattle.blocks.specs.Bytes.{block_count}
use Rattle.masking.specs.Shares.{Shares, add, shares_in, Reader, at, pair_size, masks_at}
use Rattle.masking.specs.Call.{encryption, call_size}
use Rattle.shares.specs.Packed.{shares_of}
use Rattle.runs.specs.Run.{outputs, output_of}
use Rattle.walks.specs.declared.watch.Watch.{Watch}
use Rattle.walks.specs.declared.Walk.{Walk}
use Rattle.walks.specs.Walk.{Walked}
use Rattle.calls.specs.Numbered.{mac, Fills, call_count}
use Rattle.calls.specs.Job.{Job, count, place_of, chain, job_calls, ctr_out, code_shares}
use Rattle.calls.specs.Sealed.{text_block}
use Rattle.inputs.specs.Inputs.{out_at}
use Rattle.path.specs.declared.Begun.{Begun}

-- n more calls can be done from w on: the tape has their masks
pub record Room (n : ℕ) (w : Walk) : Type 0 where
  pub tape : w.tape.used + call_size * n ≤ length w.tape.bytes.now
  pub calls : w.calls + n ≤ 2 ^ 32

-- n calls lead from w to r, on one tape
pub record Counted (n : ℕ) (w r : Walk) : Type 0 where
  pub bytes : r.tape.bytes ≡ w.tape.bytes
  pub used : r.tape.used ≡ w.tape.used + call_size * n
  pub calls : r.calls ≡ w.calls + n

-- the shares of KE and KM with their masks, which stand on the tape t at 0 and behind that pair; nothing else is read, and a is watched
pub record KeysMasked (ke km t : List ℕ) (a : Watch) (b : Begun) : Type 0 where
  pub e : shares_of b.e ≡ add (shares_in ke) (masks_at (at t) 0)
  pub m : shares_of b.m ≡ add (shares_in km) (masks_at (at t) pair_size)
  pub calls : b.walk.calls ≡ 0
  pub bytes : b.walk.tape.bytes.now ≡ t
  pub used : b.walk.tape.used ≡ 2 * pair_size
  pub watch : b.walk.watch ≡ a

-- J is a job of the link number n, the sequence number s and a ciphertext of z bytes
pub record IsJob (J : Job) (n s z : ℕ) : Type 0 where
  pub number : J.number ≡ n
  pub sequence : J.sequence ≡ s
  pub size : J.size ≡ z
  pub fills : Fills J.order (count J)

-- w stands behind the first k calls of the job J
abbrev pub JobWalked : Job → Reader → Watch → ℕ → Walk → Type 0
JobWalked J = Walked encryption (job_calls J)

-- ---- CTR's calls

-- the output shares of the first n stand in o
pub record OutsHold (J : Job) (M : Reader) (n : ℕ) (o : List (List ℕ)) : Type 0 where
  pub hold : (j : ℕ) → j < n → out_at j o ≡ ctr_out J M j

-- from w before them to r behind them, their output shares in o, under the masked shares of KE
pub record CtrDone (n s z : ℕ) (key : Shares) (w : Walk) (o : List (List ℕ)) (r : Walk) : Type 0 where
  pub counted : Counted (block_count z) w r
  pub job : (J : Job) (M : Reader) (a : Watch) → IsJob J n s z → key ≡ add (shares_in J.ke) (masks_at M 0)
      → JobWalked J M a (J.order.before_ctr (count J)) w
      → JobWalked J M a (J.order.before_ctr (count J) + count J) r × OutsHold J M (count J) o

-- ---- CMAC's calls, of the text m with the output shares in o, under the masked shares of KM

-- block j of the ciphertext, as it stands there, is the job's, of the outputs before the call that it goes into
abbrev pub BlocksHold : Job → Reader → List ℕ → List (List ℕ) → Type 0
BlocksHold J M m o = (j : ℕ) → j < count J
    → text_block m j (out_at j o) ≡ J.block j (outputs encryption (job_calls J) M (place_of J (mac (suc j)) - 1))

module _ (n s : ℕ) (m : List ℕ) (o : List (List ℕ)) (key : Shares) (w r : Walk) where
  -- from w behind the subkeys' call to r before the last one, whose output is the chain up to there
  pub record ChainDone : Type 0 where
    pub counted : Counted (block_count (length m)) w r
    pub job : (J : Job) (M : Reader) (a : Watch) → IsJob J n s (length m) → key ≡ add (shares_in J.km) (masks_at M pair_size)
        → BlocksHold J M m o → JobWalked J M a (J.order.before_mac (count J) + 1) w
        → JobWalked J M a (J.order.before_mac (count J) + 1 + count J) r
        × (shares_of r.out ≡ chain J (output_of encryption (job_calls J) M) (count J))

  -- from w before them to r behind them, whose output is the code's shares
  pub record MacDone : Type 0 where
    pub counted : Counted (block_count (length m) + 2) w r
    pub job : (J : Job) (M : Reader) (a : Watch) → IsJob J n s (length m) → key ≡ add (shares_in J.km) (masks_at M pair_size)
        → BlocksHold J M m o → JobWalked J M a (J.order.before_mac (count J)) w
        → JobWalked J M a (place_of J (mac (count J))) r × (shares_of r.out ≡ code_shares J M)

-- ---- a sealing

-- w stands behind all its calls, and its output is the tag's shares
pub record SealingDone (J : Job) (M : Reader) (a : Watch) (o : List (List ℕ)) (w : Walk) : Type 0 where
  pub walked : JobWalked J M a (call_count (count J)) w
  pub tag : shares_of w.out ≡ code_shares J M
  pub held : OutsHold J M (count J) o
