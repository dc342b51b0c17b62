-- `encrypt` meets its contract. Assumes nothing.
use Rattle.prelude.proofs.{◌≡◌, add-one, arith, rules}
use Rattle.baksheesh.specs.Baksheesh.{rounds, after, encrypt}
use Rattle.baksheesh.proofs.Steps.{rotated-suc}
use Rattle.cipher.proofs.encrypt.Goals as goal

pub loop-n-init : goal.loop-n-init
unfolding after
loop-n-init g c = search rules

pub loop-n-preserved : goal.loop-n-preserved
unfolding after
loop-n-preserved g c = rw add-one (search (rules, rotated-suc))

pub returns : goal.returns
unfolding encrypt
returns g c = let n : c.loop-n.n ≡ rounds = omega arith in cc
