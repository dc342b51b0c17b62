-- `decrypt`: with n rounds left, the key is rotated by n, and what lies n rounds back is what lay all rounds back. Assumes nothing.
use Rattle.prelude.proofs.{◌≡◌}
use Rattle.baksheesh.specs.Baksheesh.{rounds, rotated, before}
use Rattle.cipher.proofs.decrypt.Given as goal

abbrev pub invariant-loop-n : goal.invariant-loop-n
invariant-loop-n g l =
    record {
      key : g.E.Engine.block l.k ≡ rotated l.n (g.E.Engine.block l.key);
      state : before l.n (g.E.Engine.block l.key) (g.E.Engine.block l.s)
          ≡ before rounds (g.E.Engine.block l.key) (g.E.Engine.block l.initial.s);
    }
