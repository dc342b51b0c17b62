-- `chain_calls` meets its contract. The walk stands behind the subkeys' call and CMAC's first j, its output is the chain.
-- Assumes nothing.
use Rattle.prelude.proofs.{◌≡◌, ◌+◌, length}
use Rattle.masking.specs.{Shares.add, Shares.shares_in, Shares.Reader, Shares.pair_size, Shares.masks_at, Call.encryption}
use Rattle.shares.specs.Packed.{shares_of}
use Rattle.runs.specs.Run.{output_of}
use Rattle.walks.specs.declared.watch.Watch.{Watch}
use Rattle.calls.specs.{Job.Job, Job.count, Job.chain, Job.job_calls}
use Rattle.path.specs.Path.{Counted, IsJob, JobWalked, BlocksHold}
use Rattle.path.proofs.chain_calls.Given as goal

abbrev pub invariant-loop-j : goal.invariant-loop-j
invariant-loop-j l = record {
  counted : Counted l.j l.fn.walk l.walk;
  job : (J : Job) (M : Reader) (a : Watch) → IsJob J l.nonce.number l.nonce.sequence (length l.message)
      → shares_of l.key ≡ add (shares_in J.km) (masks_at M pair_size) → BlocksHold J M l.message l.outs
      → JobWalked J M a (J.order.before_mac (count J) + 1) l.fn.walk
      → JobWalked J M a (J.order.before_mac (count J) + 1 + l.j) l.walk
      × (shares_of l.walk.out ≡ chain J (output_of encryption (job_calls J) M) l.j);
}
