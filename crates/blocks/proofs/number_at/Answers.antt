-- `number_at` meets its contract. The loop has read the first i bytes. Assumes nothing.
use Rattle.prelude.proofs.{◌≡◌, ap, ◌∙◌, ℕ, ◌<◌, arith, rules}
use Rattle.blocks.specs.Bytes.{value, part}
use Rattle.blocks.proofs.Numbers.{value_none, value-more, more-fits, part-span, part-item}
use Rattle.blocks.proofs.number_at.Goals as goal

pub loop-byte-init : goal.loop-byte-init
loop-byte-init c = value_none

pub overflow_mul-number : goal.overflow_mul-number
overflow_mul-number c =
    let l = c.loop-byte in
    let a = c.args in
    let w = part-span a.at a.w a.s.now (search rules) in
    let t : l.byte-index < a.w = omega (arith, w, c.loop-byte-test.true) in
    let f = more-fits a.at l.byte-index a.s.now (λ j. (c.type_inv.s j).fits) (omega arith) (omega arith) l.invariant in
    record { fits = omega (arith, f) }

pub overflow_add-number : goal.overflow_add-number
overflow_add-number c =
    let l = c.loop-byte in
    let a = c.args in
    let w = part-span a.at a.w a.s.now (search rules) in
    let t : l.byte-index < a.w = omega (arith, w, c.loop-byte-test.true) in
    record {
      fits = rw (c.from.ensures ∙ part-item a.at a.w l.byte-index a.s.now t)
          (more-fits a.at l.byte-index a.s.now (λ j. (c.type_inv.s j).fits) (omega arith) (omega arith) l.invariant);
    }

pub loop-byte-preserved : goal.loop-byte-preserved
loop-byte-preserved c =
    let l = c.loop-byte in
    let a = c.args in
    let w = part-span a.at a.w a.s.now (search rules) in
    let t : l.byte-index < a.w = omega (arith, w, c.loop-byte-test.true) in
    rw (c.from.ensures ∙ part-item a.at a.w l.byte-index a.s.now t) (value-more a.at l.byte-index a.s.now (omega arith) l.invariant)

pub returns : goal.returns
returns c =
    let a = c.args in
    let w = part-span a.at a.w a.s.now (search rules) in
    let e : c.loop-byte.byte-index ≡ a.w = omega (arith, w, c.loop-byte.auto, c.loop-byte-test.false) in
    c.loop-byte.invariant ∙ ap (λ (i : ℕ). value (part a.at i a.s.now)) e
