-- `ctr_calls` meets its contract. The walk stands behind CTR's first j calls, their output shares are in `outs`. Assumes nothing.
use Rattle.prelude.proofs.{◌≡◌, ◌+◌, length}
use Rattle.masking.specs.Shares.{add, shares_in, Reader, masks_at}
use Rattle.shares.specs.Packed.{shares_of}
use Rattle.walks.specs.declared.watch.Watch.{Watch}
use Rattle.calls.specs.{Job.Job, Job.count}
use Rattle.path.specs.Path.{Counted, IsJob, JobWalked, OutsHold}
use Rattle.path.proofs.ctr_calls.Given as goal

abbrev pub invariant-loop-j : goal.invariant-loop-j
invariant-loop-j l = record {
  counted : Counted l.j l.fn.walk l.walk;
  size : length l.outs ≡ 16;
  job : (J : Job) (M : Reader) (a : Watch) → IsJob J l.nonce.number l.nonce.sequence l.len
      → shares_of l.key ≡ add (shares_in J.ke) (masks_at M 0) → JobWalked J M a (J.order.before_ctr (count J)) l.fn.walk
      → JobWalked J M a (J.order.before_ctr (count J) + l.j) l.walk × OutsHold J M l.j l.outs;
}
