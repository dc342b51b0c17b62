-- `share_round` meets its contract, lane by lane. Assumes nothing.
use Rattle.shares.specs.Packed.{shares_of}
use Rattle.shares.proofs.Packed.{round-lanes}
use Rattle.shares.proofs.share_round.Goals as goal

pub returns : goal.returns
returns c =
    let a = c.args in
    round-lanes a.n (shares_of a.s) (shares_of a.k) c.lane_round.ensures c.lane_round-2.ensures
    c.lane_round-3.ensures
