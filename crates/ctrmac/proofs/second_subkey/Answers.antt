-- `second_subkey` meets its contract. Assumes nothing.
use Rattle.modes.specs.Cmac.{subkey₂}
use Rattle.ctrmac.proofs.second_subkey.Goals as goal

pub returns : goal.returns
unfolding subkey₂
returns c = cc
