-- `Tape::draw` meets its contract. Assumes nothing.
use Rattle.prelude.proofs.{ap₂, ◌∙◌}
use Rattle.masking.specs.Shares.{spread, at}
use Rattle.shares.proofs.Tape.draw.Goals as goal

pub returns-clause-masks : goal.returns-clause-masks
unfolding at
returns-clause-masks c =
    ap₂ spread (c.pack.ensures ∙ c.bytes_at.ensures) (c.pack-2.ensures ∙ c.bytes_at-2.ensures)
