-- `piece` meets its contract. Assumes nothing.
use Rattle.modes.proofs.Pieces.{piece-cut}
use Rattle.modes.proofs.piece.Goals as goal

pub returns : goal.returns
returns c = piece-cut _ _ _ c.width.ensures
