-- The calls of a job are a run: their masks are placed, and every share is a block. Sealing is such a job. Assumes nothing.
use Rattle.prelude.proofs.{◌≡◌, Bool, true, false, cond, List, ℕ, zero, suc, ◌+◌, ◌-◌, ◌≤◌, dec_lt, arith, length, take, replicate}
use Rattle.prelude.proofs.{length-append, length-take, length-replicate, eq-eqb, ne_eqb}
use Rattle.blocks.specs.Bytes.{Bytes, Block, part, piece}
use Rattle.blocks.proofs.Xor.{⊕-block, bytes_take, bytes-append, bytes-replicate, zeros-block}
use Rattle.blocks.proofs.Parts.{part_length, part_bytes}
use Rattle.modes.specs.Cmac.{padded}
use Rattle.modes.proofs.{Pieces.piece-le, Pieces.piece_bytes, Cmac.padded-block, Doubled.doubled-block}
use Rattle.links.proofs.Record.{counter-block}
use Rattle.links.specs.declared.Sender.{Sender}
use Rattle.masking.specs.Shares.{Index, Shares, Blocks, shares_in}
use Rattle.masking.specs.Call.{encryption}
use Rattle.masking.proofs.Shape.{three-blocks, add-blocks, only-blocks}
use Rattle.runs.proofs.Run.{Placed, RunBlocks}
use Rattle.calls.specs.Numbered.{Call, ctr, sub, mac, of_key}
use Rattle.calls.specs.Job.{Job, completed, call_in, subkey, mac_block, chain, input_from, job_calls}
use Rattle.calls.specs.{Sealed.cut, Sealed.sealing, Demand.Formed}
use Rattle.calls.proofs.Numbered.{key-low}

-- ---- blocks of a text

pub completed-whole : (p : List ℕ) → length p ≡ 16 → completed p ≡ p
completed-whole p e = rw (eq-eqb (length p) 16 e)

pub completed-short : (p : List ℕ) → (length p ≡ 16 → ⊥) → completed p ≡ padded p
completed-short p e = rw (ne_eqb (length p) 16 e)

pub completed-block : (p : List ℕ) → Bytes p → length p ≤ 16 → Block (completed p)
completed-block p b h = elim (dec_lt (length p) 16) [
  | yes l ↦ rw (completed-short p (λ e. omega arith)) (padded-block p b l)
  | no l ↦ let e : length p ≡ 16 = omega arith in rw (completed-whole p e) (record { size = e; bytes = b })
]

cond-block : (t : Bool) {a b : List ℕ} → Block a → Block b → Block (cond t a b)
cond-block true p q = p
cond-block false p q = q

cond-blocks : (t : Bool) (s u : Shares) (i : Index) → Block (s i) → Block (u i) → Block (cond t s u i)
cond-blocks true s u i p q = p
cond-blocks false s u i p q = q

-- ---- the calls of a job

-- their masks stand one behind the other, behind those of the keys
pub job-placed : (J : Job) → Placed encryption (job_calls J)
job-placed J = record {
  keys-before = λ j k. omega (arith, key-low (call_in J j));
  calls-apart = λ j k l h. omega arith;
}

-- the shares of its keys are blocks, and the ciphertext's blocks are blocks of blocks
pub record JobBlocks (J : Job) : Type 0 where
  pub ke : Blocks (shares_in J.ke)
  pub km : Blocks (shares_in J.km)
  pub block : (j : ℕ) (f : ℕ → Shares) → ((i : ℕ) → Blocks (f i)) → Blocks (J.block j f)

module _ (J : Job) (B : JobBlocks J) where
  given-blocks : (c : Call) → Blocks (shares_in (of_key J.ke J.km c))
  given-blocks (ctr j) = B.ke
  given-blocks sub = B.km
  given-blocks (mac j) = B.km

  module _ (f : ℕ → Shares) (fb : (j : ℕ) → Blocks (f j)) where
    mac_block-blocks : (j : ℕ) → Blocks (mac_block J f j)
    unfolding mac_block
    mac_block-blocks zero = only-blocks (counter-block _ _ 0)
    mac_block-blocks (suc j) = B.block j f fb

    chain-blocks : (j : ℕ) → Blocks (chain J f j)
    unfolding chain
    chain-blocks zero = λ i. zeros-block
    chain-blocks (suc j) = fb _

    subkey-blocks : Blocks (subkey J f)
    unfolding subkey
    subkey-blocks i = search (cond-block, doubled-block)

    input-blocks : (c : Call) → Blocks (input_from J c f)
    unfolding input_from
    input-blocks (ctr j) i = only-blocks (counter-block _ _ j) i
    input-blocks sub i = zeros-block
    input-blocks (mac j) i =
        let c = chain-blocks j i in
        let k = subkey-blocks i in
        let q = mac_block-blocks j i in
        search (⊕-block, cond-blocks)

  pub job-blocks : RunBlocks (job_calls J)
  job-blocks = record {
    given-blocks = λ k. given-blocks (call_in J k);
    input-blocks = λ k f fb. input-blocks f fb (call_in J k);
  }

-- ---- sealing

-- three shares in a link
pub shares-in : (b : List ℕ) → length b ≡ 48 → Bytes b → Blocks (shares_in b)
shares-in b e h = three-blocks (cell 0 (omega arith)) (cell 16 (omega arith)) (cell 32 (omega arith))
  where
    cell : (p : ℕ) → p + 16 ≤ 48 → Block (part p 16 b)
    cell p l = record { size = part_length p 16 b (omega arith); bytes = part_bytes p 16 b h }

pub cut-block : (w : ℕ) (b : List ℕ) → w ≤ 16 → Block b → Block (cut w b)
cut-block w b h p = record {
  size = simp (length-append, length-take, length-replicate) (omega arith);
  bytes = bytes-append (take w b) (replicate (16 - w) 0) (bytes_take w b p.bytes) (bytes-replicate (16 - w));
}

pub sealing-blocks : (x : Sender) (m : List ℕ) → Formed x → Bytes m → JobBlocks (sealing x m)
sealing-blocks x m F b = record {
  ke = shares-in x.ke F.ke-size F.ke-bytes;
  km = shares-in x.km F.km-size F.km-bytes;
  block = λ j f fb.
      add-blocks (λ i. cut-block _ _ (piece-le j m) (fb _ i))
      (only-blocks (completed-block (piece j m) (piece_bytes j m b) (piece-le j m)));
}
