-- `padded_at` meets its contract: the last bytes copied over zeros, and the bit 1 behind them. Assumes nothing.
use Rattle.prelude.proofs.{arith}
use Rattle.modes.proofs.Written.{padded-last}
use Rattle.modes.proofs.padded_at.Goals as goal

pub returns : goal.returns
returns c = padded-last c.args.text.now _ c.args.at c.copy_from_slice.ensures.after (omega arith) (omega arith)
