-- `mask` meets its contract: the three masks are added, share by share. Assumes nothing.
use Rattle.prelude.proofs.{refl, ap, ◌∙◌}
use Rattle.masking.specs.Shares.{add}
use Rattle.masking.proofs.Shape.{shares-same}
use Rattle.shares.proofs.mask.Goals as goal

pub returns : goal.returns
returns c = c.add_shares.ensures ∙ ap (add _) (shares-same refl refl c.add.ensures)
