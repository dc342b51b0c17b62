-- `shift` meets its contract. The loop has written the first i bytes. Assumes nothing.
use Rattle.std.proofs.Common.{below_more, ◌≢◌}
use Rattle.prelude.proofs.{◌≡◌, refl, ap, ◌∙◌, ℕ, ◌*◌, ◌/◌, ◌%◌, ◌<◌, arith, length, length-take, length-drop, length-set, get_or, get_or-take, get_or-drop}
use Rattle.prelude.proofs.{get_or-set_same, get_or-set_other, w8, Fits, rules, bit_xor, add_comm}
use Rattle.blocks.specs.Bytes.{Block}
use Rattle.modes.proofs.Doubled.{shifted-bytes}
use Rattle.modes.proofs.shift.Goals as goal

pub loop-i-preserved : goal.loop-i-preserved
loop-i-preserved c =
    let l = c.loop-i in
    let b = c.args.b in
    let t : l.i < 15 = omega (arith, length-take {A = ℕ}, length-drop {A = ℕ}) in
    record {
      size = length-set l.r l.i _ ∙ l.invariant.size;
      written = below_more _ _
          (λ k h. let other : k ≢ l.i = omega arith in rw get_or-set_other (l.invariant.written k h))
          (let within : l.i < length l.r = omega arith in
          rw get_or-set_same
          (ap (λ (x : ℕ). bit_xor (get_or b l.i 0 * 2 % 256) (x / 128))
          (get_or-take 15 _ l.i 0 t ∙ get_or-drop 1 b l.i 0 ∙ ap (λ (k : ℕ). get_or b k 0) (add_comm 1 l.i))));
    }

pub returns : goal.returns
returns c =
    let b = c.args.b in
    let w : Block b = record { size = search rules; bytes = λ j. let f : Fits w8 (get_or b j 0) = search rules in f.fits } in
    let l = c.loop-i in
    let end : l.i ≡ 15 = omega (arith, w.size, length-take {A = ℕ}, length-drop {A = ℕ}) in
    let last : 15 < length l.r = omega (arith, l.invariant.size) in
    shifted-bytes w _ (length-set l.r 15 _ ∙ l.invariant.size)
    (λ k h. let other : k ≢ 15 = omega arith in rw get_or-set_other (l.invariant.written k (omega arith)))
    (rw get_or-set_same refl)
