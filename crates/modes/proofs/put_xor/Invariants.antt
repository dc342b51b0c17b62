-- `put_xor` meets its contract. The loop has written the first i bytes. Assumes nothing.
use Rattle.prelude.proofs.{◌≡◌, get_or}
use Rattle.blocks.specs.Bytes.{◌⊕◌, put, tab, piece}
use Rattle.modes.proofs.put_xor.Given as goal

abbrev pub invariant-loop-i : goal.invariant-loop-i
invariant-loop-i l = l.out ≡ put l.at (tab l.i (λ k. get_or (piece l.j l.text ⊕ l.key) k 0)) l.initial.out
