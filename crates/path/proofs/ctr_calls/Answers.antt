-- `ctr_calls` meets its contract. The walk stands behind CTR's first j calls, their output shares are in `outs`. Assumes nothing.
use Rattle.prelude.proofs.{◌≡◌, ap, ◌∙◌, ◌+◌, ◌≤◌, ◌<◌, arith, length, length-set}
use Rattle.blocks.specs.Bytes.{block_count}
use Rattle.masking.specs.Shares.{only}
use Rattle.walks.proofs.Walking.{walked_at}
use Rattle.calls.specs.{Numbered.ctr, Job.count}
use Rattle.path.proofs.Walking.{counted-more, counted-at, call-more, ctr-in, outs-more, outs-at}
use Rattle.path.proofs.ctr_calls.Goals as goal

pub loop-j-preserved : goal.loop-j-preserved
loop-j-preserved c =
    let l = c.loop-j in
    let more : l.j < block_count c.args.len = omega arith in
    let few : block_count c.args.len ≤ 16 = omega arith in
    let fits : l.j < length l.outs = omega (arith, l.invariant.size, few, more) in
    let S = c.step.ensures in
    let block = c.only.ensures ∙ ap only (c.pack.ensures ∙ c.counter_block.ensures) in
    record {
      counted = counted-more l.invariant.counted S;
      size = simp length-set l.invariant.size;
      job = λ J M a I ek W.
          let h = l.invariant.job J M a I ek W in
          let went = call-more J M I (ctr l.j) (omega (arith, more, I.size)) a (J.order.before_ctr (count J) + l.j) (omega arith) ek
          (block ∙ ctr-in J M I l.j _) h.0 S in
          (walked_at _ _ _ _ (omega arith) went.0, outs-more J M l.j _ _ _ h.1 fits c.unpack_shares.ensures went.1);
    }

pub returns : goal.returns
returns c =
    let l = c.loop-j in
    let e : l.j ≡ block_count c.args.len = omega arith in
    record {
      counted = counted-at e l.invariant.counted;
      job = λ J M a I ek W.
          let h = l.invariant.job J M a I ek W in
          (walked_at _ _ _ _ (omega (arith, I.size, e)) h.0, outs-at J _ (omega (arith, I.size, e)) h.1);
    }
