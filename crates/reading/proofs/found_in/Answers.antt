-- `found_in` meets its contract: before a turn the reader holds what the words before it say. Assumes nothing.
use Rattle.prelude.proofs.{arith}
use Rattle.std.proofs.lemmas.Grind.{common_steps}
use Rattle.reading.proofs.Chunks.{all_taken, bad_among}
use Rattle.reading.proofs.found_in.Goals as goal

pub returns : goal.returns
returns c = all_taken _ _ c.as_chunks.ensures.front _ _ c.loop-word.invariant (omega arith)

pub returns-in_err-take : goal.returns-in_err-take
returns-in_err-take c =
    let bad = bad_among _ _ c.as_chunks.ensures.front c.loop-word.word-index (c.in_err-take.ensures _ c.loop-word.invariant) (omega arith) c.from_be_bytes.ensures in
    grind (arith, common_steps)
