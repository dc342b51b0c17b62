-- `read` meets its contract: a record that passed its test is as long as one can be. Assumes nothing.
use Rattle.prelude.proofs.{sym}
use Rattle.links.proofs.Widths.{proper_of}
use Rattle.readable.proofs.Readable.{passed-readable}
use Rattle.receiver.proofs.Receiver.read.Goals as goal

pub invariant_of-result : goal.invariant_of-result
invariant_of-result c = record { proper = proper_of _ c.form.ensures; sized = rw c.form.ensures (passed-readable _ _ _ _ _ (sym c.in_ok-test_record.ensures)).sized }
