-- `same_at` meets its contract. Assumes nothing.
use Rattle.prelude.proofs.{◌≡◌, sym, ap, ◌∙◌, ◌&&◌, Bool, eqb, get_or, length, ◌+◌, rules, arith}
use Rattle.blocks.proofs.Same.{compared, compared-more}
use Rattle.blocks.proofs.same_at.Goals as goal

pub loop-i-preserved : goal.loop-i-preserved
loop-i-preserved c =
    let l = c.loop-i in
    let a = c.args in
    let z : length a.block ≡ 16 = search rules in
    ap (λ (same : Bool). same && eqb (get_or a.block l.i 0) (get_or a.s.now (a.at + l.i) 0)) l.invariant
    ∙ sym (compared-more a.block a.s.now a.at l.i (omega arith) (omega arith))

pub returns : goal.returns
returns c =
    let a = c.args in
    let e : c.loop-i.i ≡ a.n = omega arith in
    c.loop-i.invariant ∙ ap (compared a.block a.s.now a.at) e
