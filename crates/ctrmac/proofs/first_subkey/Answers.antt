-- `first_subkey` meets its contract. Assumes nothing.
use Rattle.blocks.specs.Bytes.{zeros}
use Rattle.modes.specs.Cmac.{subkey₁}
use Rattle.ctrmac.proofs.first_subkey.Goals as goal

pub returns : goal.returns
unfolding subkey₁ zeros
returns c = cc
