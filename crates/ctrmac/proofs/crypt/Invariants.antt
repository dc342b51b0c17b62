-- `crypt`: the loop has written the first j blocks. Assumes nothing.
use Rattle.prelude.proofs.{◌≡◌}
use Rattle.baksheesh.specs.Baksheesh.{encrypt}
use Rattle.words.specs.Words.{unpacked}
use Rattle.modes.proofs.Stream.{written}
use Rattle.links.specs.Record.{counter_block}
use Rattle.ctrmac.proofs.crypt.Given as goal

abbrev pub invariant-loop-j : goal.invariant-loop-j
invariant-loop-j l = l.out ≡ written (encrypt (unpacked l.key)) (counter_block l.nonce.number l.nonce.sequence) l.bytes l.at l.initial.out l.j
