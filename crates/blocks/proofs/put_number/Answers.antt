-- `put_number` meets its contract. The bytes from i on have been written. Assumes nothing.
use Rattle.prelude.proofs.{rules}
use Rattle.blocks.proofs.Numbers.{rest-none, rest_more, digits-none, digits_more}
use Rattle.blocks.proofs.put_number.Goals as goal

pub loop-i-init : goal.loop-i-init
loop-i-init c =
    let a = c.args in
    (search rules, rest-none a.at a.w a.x a.out.now (search rules), digits-none _ _ _ _ (search rules))

pub loop-i-preserved : goal.loop-i-preserved
loop-i-preserved c =
    let l = c.loop-i in
    let a = c.args in (
      search rules,
      rest_more a.at a.w a.x a.out.now (search rules) l.i (search rules) (search rules) l.invariant.1,
      digits_more a.at a.w a.x a.out.now (search rules) l.i (search rules) (search rules) l.invariant.1 l.invariant.2,
    )
