-- `halves` meets its contract. Assumes nothing.
use Rattle.prelude.proofs.{sym, arith}
use Rattle.answers.proofs.First.{tests}
use Rattle.links.proofs.Keying.{key-refused, key-done}
use Rattle.links.proofs.halves.Goals as goal

pub returns-then-keys-clause-answer_value : goal.returns-then-keys-clause-answer_value
returns-then-keys-clause-answer_value g c = sym (key-refused _ _ 0 tt (omega (arith, tests)))

pub returns-clause-answer_value : goal.returns-clause-answer_value
returns-clause-answer_value g c = sym (key-done _ _ (omega (arith, tests)))
