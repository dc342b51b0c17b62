-- What a walk has seen of the watched pair are the lanes of its run. Assumes nothing.
use Rattle.prelude.proofs.{◌≡◌, ◌++◌, ℕ, ◌≤◌}
use Rattle.masking.specs.{Shares.Index, Shares.next, Shares.Reader, Stages.Stages, Stages.lane}
use Rattle.runs.specs.Run.{Run, lane_of}
use Rattle.walks.specs.{declared.watch.Watch.Watch, declared.Walk.Walk, Walk.Walked}
use Rattle.outgoing.specs.Outgoing.{lane_in}

pub lane-seen : {D : Stages} {R : Run} {M : Reader} {a : Watch} {k : ℕ} {w : Walk} → Walked D R M a k w → 1 ≤ a.call → a.call ≤ k
    → (i : Index) → lane_in w.seen i ≡ lane_of D R M a.call a.pair i
unfolding lane_of lane
lane-seen W l h i = let s = W.saw l h in λ z. s.state z (next i) ++ (s.state z (next (next i)) ++ s.key z i)
