-- `chain_calls` meets its contract. The walk stands behind the subkeys' call and CMAC's first j, its output is the chain.
-- Assumes nothing.
use Rattle.prelude.proofs.{◌≡◌, refl, ap, ◌∙◌, ◌+◌, ◌<◌, arith, length}
use Rattle.blocks.specs.Bytes.{block_count}
use Rattle.masking.specs.{Shares.add, Call.encryption}
use Rattle.runs.specs.Run.{output_of}
use Rattle.walks.proofs.Walking.{walked_at}
use Rattle.calls.specs.{Numbered.mac, Job.count, Job.chain, Job.job_calls}
use Rattle.path.proofs.Walking.{counted-more, counted-at, call-more, block_held, chain-none, chain-in, chain_more}
use Rattle.path.proofs.chain_calls.Goals as goal

pub loop-j-init : goal.loop-j-init
loop-j-init c = record {
  counted = record { bytes = refl; used = omega arith; calls = omega arith };
  job = λ J M a I ek H W.
      let e : J.order.before_mac (count J) + 1 ≡ J.order.before_mac (count J) + 1 + 0 = omega arith in
      let w = walked_at _ _ _ _ e W in
      (record { calls = w.calls; used = w.used; reads = w.reads; watch = w.watch; saw = w.saw }, chain-none J M c.only-walk.ensures);
}

pub loop-j-preserved : goal.loop-j-preserved
loop-j-preserved c =
    let l = c.loop-j in
    let m = c.args.message.now in
    let more : l.j < block_count (length m) = omega (arith, ap length c.message.view_is) in
    let S = c.step.ensures in
    record {
      counted = counted-more l.invariant.counted S;
      job = λ J M a I ek H W.
          let h = l.invariant.job J M a I ek H W in
          let low : l.j < count J = omega (arith, more, I.size) in
          let block = c.mac_block-block.ensures ∙ block_held J M I m c.args.outs.now H l.j (omega arith) in
          let input = c.add_shares.ensures ∙ (λ z. add (h.1 z) (block z)) ∙ chain-in J M l.j low in
          let went = call-more J M I (mac l.j) (omega arith) a (J.order.before_mac (count J) + 1 + l.j) (omega arith) ek input h.0 S in
          (walked_at _ _ _ _ (omega arith) went.0, went.1 ∙ chain_more J M l.j);
    }

pub returns : goal.returns
returns c =
    let l = c.loop-j in
    let e : l.j ≡ block_count (length c.args.message.now) = omega (arith, ap length c.message.view_is) in
    record {
      counted = counted-at e l.invariant.counted;
      job = λ J M a I ek H W.
          let h = l.invariant.job J M a I ek H W in
          let d : l.j ≡ count J = omega (arith, I.size, e) in
          (walked_at _ _ _ _ (omega arith) h.0, h.1 ∙ ap (chain J (output_of encryption (job_calls J) M)) d);
    }
