-- `only` meets its contract: words of zeros are the block of zeros. Assumes nothing.
use Rattle.prelude.proofs.{refl}
use Rattle.masking.proofs.Shape.{shares-same}
use Rattle.shares.proofs.Packed.{zero-words}
use Rattle.shares.proofs.only.Goals as goal

pub returns : goal.returns
returns c = shares-same refl zero-words zero-words
