-- `chained` meets its contract. The chain goes over the first j blocks. Assumes nothing.
use Rattle.prelude.proofs.{◌≡◌, sym, arith}
use Rattle.baksheesh.specs.Baksheesh.{encrypt}
use Rattle.words.specs.Words.{unpacked}
use Rattle.modes.proofs.Cmac.{chain-zero, chain_more}
use Rattle.ctrmac.proofs.chained.Goals as goal

pub loop-j-init : goal.loop-j-init
loop-j-init c = sym (chain-zero _ _ _)

pub loop-j-preserved : goal.loop-j-preserved
loop-j-preserved c =
    let more = chain_more (encrypt (unpacked c.args.key)) (unpacked c.args.first) c.args.text.now c.loop-j.j in
    cc

pub returns : goal.returns
returns c =
    let e : c.loop-j.j ≡ c.args.n = omega arith in
    cc
