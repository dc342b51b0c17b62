-- `chained`: the chain goes over the first j blocks. Assumes nothing.
use Rattle.prelude.proofs.{◌≡◌}
use Rattle.baksheesh.specs.Baksheesh.{encrypt}
use Rattle.words.specs.Words.{unpacked}
use Rattle.modes.specs.Cmac.{chain}
use Rattle.ctrmac.proofs.chained.Given as goal

abbrev pub invariant-loop-j : goal.invariant-loop-j
invariant-loop-j l = unpacked l.chain ≡ chain (encrypt (unpacked l.key)) (unpacked l.initial.chain) l.text l.j
