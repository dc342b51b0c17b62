-- `encrypt`: before round n + 1 the state says the definition's block after n rounds, and the key is rotated by n + 1. Assumes nothing.
use Rattle.prelude.proofs.{◌≡◌, suc}
use Rattle.baksheesh.specs.Baksheesh.{rotated, after}
use Rattle.cipher.proofs.encrypt.Given as goal

abbrev pub invariant-loop-n : goal.invariant-loop-n
invariant-loop-n g l =
    record {
      key : g.E.Engine.block l.k ≡ rotated (suc l.n) (g.E.Engine.block l.fn.key);
      state : g.E.Engine.block l.s ≡ after l.n (g.E.Engine.block l.fn.key) (g.E.Engine.block l.initial.s);
    }
