-- `run_rounds` meets its contract. The loop has done the rounds up to the one numbered n, with their masks. Assumes nothing.
use Rattle.prelude.proofs.{◌≡◌, ap, ◌∙◌, ◌+◌, ◌-◌, ◌*◌, arith}
use Rattle.masking.specs.Shares.{add, at, masks_at, pair_size}
use Rattle.std.proofs.lemmas.Grind.{common_steps}
use Rattle.shares.specs.{declared.Tape.Tape}
use Rattle.shares.proofs.Onward.{onward-none, onward-more}
use Rattle.shares.proofs.run_rounds.Goals as goal

pub loop-n-init : goal.loop-n-init
loop-n-init c = record { went = onward-none _ _ _ _ _ (omega arith); drawn = grind (arith, common_steps) }

pub loop-n-preserved : goal.loop-n-preserved
loop-n-preserved c =
    let l = c.loop-n in
    let read : l.tape.used ≡ c.args.tape.now.used + pair_size * (l.n - c.args.from) = ap (λ (z : Tape). z.used) l.invariant.drawn in
    let there = ap (λ (z : Tape). masks_at (at z.bytes.now) l.tape.used) l.invariant.drawn in
    let masked = c.mask-state.ensures ∙ ap (add _) (c.draw-masks.ensures.masks ∙ there) in
    record {
      went = onward-more l.invariant.went _ l.n l.tape.used (omega arith) (omega arith) read c.rotate_shares-key.ensures
          c.share_round.ensures masked;
      drawn = grind (arith, common_steps);
    }

pub returns-clause-rounds : goal.returns-clause-rounds
returns-clause-rounds c = let e : c.args.to ≡ c.loop-n.n = omega arith in rw e c.loop-n.invariant.went
