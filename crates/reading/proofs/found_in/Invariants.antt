-- `found_in` meets its contract: before a turn the reader holds what the words before it say. Assumes nothing.
use Rattle.prelude.proofs.{map, take, w32}
use Rattle.std.specs.Int.{from_be_bytes}
use Rattle.reading.specs.Found.{Holds}
use Rattle.reading.proofs.found_in.Given as goal

abbrev pub invariant-loop-word : goal.invariant-loop-word
invariant-loop-word l = Holds l.found (map (from_be_bytes w32) (take l.word-index l.words))
