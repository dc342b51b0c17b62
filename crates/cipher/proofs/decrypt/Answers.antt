-- `decrypt` meets its contract. Assumes nothing.
use Rattle.prelude.proofs.{◌≡◌, refl, List, ℕ, suc, ◌-◌, arith, rules}
use Rattle.baksheesh.specs.Baksheesh.{rotated, inv_round, before, decrypt}
use Rattle.baksheesh.proofs.Steps.{rotated-back}
use Rattle.cipher.proofs.decrypt.Goals as goal

one-back : (n : ℕ) (k x : List ℕ) → before (suc n) k x ≡ before n k (inv_round n (rotated (suc n) k) x)
unfolding before
one-back n k x = refl

pub loop-n-preserved : goal.loop-n-preserved
loop-n-preserved g c =
    let key = g.E.Engine.block c.args.key in
    let m : ℕ = c.loop-n.n - 1 in
    let n : c.loop-n.n ≡ suc m = omega arith in
    record {
      key = cc (rotated-back m key);
      state = cc (one-back m key (g.E.Engine.block c.loop-n.s));
    }

pub returns : goal.returns
unfolding decrypt before
returns g c = let n : c.loop-n.n ≡ 0 = omega arith in let e = rw n at c.loop-n.invariant.state in search (rules, e)
