-- `add_constants` meets its contract: its table is the constants', and a test for each mask. Assumes nothing.
use Rattle.bits.specs.Bit.{bit}
use Rattle.words.proofs.Constants.{adds_constant}
use Rattle.words.proofs.steps.add_constants.Goals as goal

pub returns : goal.returns
unfolding bit
returns c = adds_constant _ _ _ _ c.args.s c.args.n c.requires tt tt tt tt
