-- `put_digits` meets its contract. The loop has written the digits of the first i bytes. Assumes nothing.
use Rattle.prelude.proofs.{arith}
use Rattle.hex_digits.proofs.Laws.{none_written, one_more}
use Rattle.hex_digits.proofs.put_digits.Goals as goal

pub loop-i-init : goal.loop-i-init
loop-i-init c = none_written _

pub loop-i-preserved : goal.loop-i-preserved
loop-i-preserved c =
    one_more _ _ _ _ _ _ c.loop-i.invariant (omega arith) (omega arith) c.digit.ensures c.digit-in-loop-i.ensures
