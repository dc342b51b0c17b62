-- `shown_key` meets its contract, by the two cases. Assumes nothing.
use Rattle.prelude.proofs.{arith, lt-ltb}
use Rattle.masking.specs.Call.{pair_count}
use Rattle.shares.proofs.shown_key.Goals as goal

pub returns-then-n-lt-PAIRS : goal.returns-then-n-lt-PAIRS
returns-then-n-lt-PAIRS c = rw (lt-ltb c.args.n pair_count (omega arith)) c.rotate_shares.ensures
