-- `look_up` meets its contract. Assumes nothing.
use Rattle.prelude.proofs.{get_or, rules}
use Rattle.blocks.proofs.Arrays.{tab-from_fn}
use Rattle.lookup.proofs.look_up.Goals as goal

pub returns : goal.returns
returns c =
    tab-from_fn _ _ (λ k. get_or c.args.t.now (get_or c.args.s k 0) 0) (λ k y q e. search rules) 16 c.from_fn.result c.from_fn.ensures.items
