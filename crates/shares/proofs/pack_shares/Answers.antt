-- `pack_shares` meets its contract, share by share. Assumes nothing.
use Rattle.prelude.proofs.{◌∙◌}
use Rattle.masking.proofs.Shape.{shares-same}
use Rattle.shares.proofs.pack_shares.Goals as goal

pub returns : goal.returns
returns c =
    shares-same (c.pack.ensures ∙ c.bytes_at.ensures) (c.pack-2.ensures ∙ c.bytes_at-2.ensures) (c.pack-3.ensures ∙ c.bytes_at-3.ensures)
