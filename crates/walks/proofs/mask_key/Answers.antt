-- `mask_key` meets its contract: the given shares and the masks drawn are added. Assumes nothing.
use Rattle.prelude.proofs.{ap₂, ◌∙◌}
use Rattle.masking.specs.Shares.{add}
use Rattle.walks.proofs.mask_key.Goals as goal

pub returns-clause-keyed : goal.returns-clause-keyed
returns-clause-keyed c = c.mask.ensures ∙ ap₂ add c.pack_shares.ensures c.draw.ensures.masks
