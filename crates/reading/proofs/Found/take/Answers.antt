-- `take` meets its contract: what each kind of word does to what the reader holds. Assumes nothing.
use Rattle.prelude.proofs.{refl, arith, to_z-of_z}
use Rattle.reading.proofs.Taken.{of_kind_0, skipped, out_of_range, taken_high, taken_low, taken_fraction, taken_offset}
use Rattle.reading.proofs.Found.take.Goals as goal

pub returns-in-1 : goal.returns-in-1
returns-in-1 c = λ ws h. taken_high _ ws _ h _ _ _ refl (omega arith) c.put_first.ensures

pub returns-in-2 : goal.returns-in-2
returns-in-2 c = λ ws h. taken_low _ ws _ h _ _ _ refl (omega arith) c.put_first-in-2.ensures

pub returns-in-3 : goal.returns-in-3
returns-in-3 c = λ ws h. taken_fraction _ ws _ h _ _ _ refl (omega arith) c.put_first-in-3.ensures

pub returns-then-not-offset_in_range : goal.returns-then-not-offset_in_range
returns-then-not-offset_in_range c = λ ws h. out_of_range _ ws _ h (omega arith) (grind (arith, to_z-of_z))

pub returns-else-not-offset_in_range : goal.returns-else-not-offset_in_range
returns-else-not-offset_in_range c = λ ws h. taken_offset _ ws _ h _ _ _ (grind (arith, to_z-of_z)) (omega arith) (grind (arith, to_z-of_z)) c.put_first-in-4.ensures

pub returns-in-5-to-15 : goal.returns-in-5-to-15
returns-in-5-to-15 c = λ ws h. skipped _ ws _ h (omega arith)

pub returns-in_default : goal.returns-in_default
returns-in_default c = λ ws h. of_kind_0 _ ws _ h (omega arith)
