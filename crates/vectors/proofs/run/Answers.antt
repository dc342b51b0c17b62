-- `run` calls on blocks, so the call is done. Assumes nothing.
use Rattle.prelude.proofs.{rules}
use Rattle.engines.proofs.Block.{done-on_blocks}
use Rattle.vectors.proofs.run.Goals as goal

pub unwrap-requires : goal.unwrap-requires
unwrap-requires c = done-on_blocks _ _ _ (search rules) (search rules) (search rules) _ c.call.ensures.result_value
