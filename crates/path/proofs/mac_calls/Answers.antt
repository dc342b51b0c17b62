-- `mac_calls` meets its contract: the subkeys' call, the chain, and the last call. Assumes nothing.
use Rattle.prelude.proofs.{◌≡◌, sym, ap, ◌∙◌, subst, ℕ, ◌+◌, arith, length}
use Rattle.masking.specs.Shares.{add}
use Rattle.walks.proofs.Walking.{walked_at}
use Rattle.calls.specs.{Numbered.sub, Numbered.mac, Job.count}
use Rattle.inputs.specs.Inputs.{block_shares}
use Rattle.path.specs.Path.{IsJob}
use Rattle.path.proofs.Walking.{counted_none, counted-more, counted-on, counted-at, call-more, sub_in, block_held, subkey-made, last-in}
use Rattle.path.proofs.mac_calls.Goals as goal

pub returns : goal.returns
returns c =
    let n = c.args.nonce in
    let m = c.args.message.now in
    let o = c.args.outs.now in
    let E = c.chain_calls.ensures in
    let one = counted-more (counted_none c.args.walk.now) c.step.ensures in
    record {
      counted = counted-at (omega arith) (counted-more (counted-on one E.counted) c.step-2.ensures);
      job = λ J M a I ek H W.
          let b : ℕ = J.order.before_mac (count J) in
          let blocks : c.div_ceil.result ≡ count J = omega (arith, ap length c.message.view_is, I.size) in
          let first = call-more J M I sub tt a b (omega arith) ek (sub_in J M _ c.only.ensures) W c.step.ensures in
          let chained = E.job J M a I ek H (walked_at _ _ _ _ (omega arith) first.0) in
          let subkey = c.last_key-subkey.ensures
          ∙ subkey-made J M (subst (λ (z : ℕ). IsJob J n.number n.sequence z) (ap length (sym c.message.view_is)) I) first.1 in
          let last = c.mac_block-last.ensures
          ∙ (λ z. block_shares n.number n.sequence m o (blocks z))
          ∙ block_held J M I m o H (count J) (omega arith) in
          let input = c.add_shares-2.ensures
          ∙ (λ z. add (chained.1 z) ((c.add_shares.ensures ∙ λ y. add (subkey y) (last y)) z)) ∙ last-in J M in
          call-more J M I (mac (count J)) (omega arith) a (b + 1 + count J) (omega arith) ek input chained.0 c.step-2.ensures;
    }
