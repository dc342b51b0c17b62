-- What the path has seen is the lane of the sealing. Assumes nothing.
use Rattle.prelude.proofs.{◌≡◌, subst, List, ℕ, ◌≤◌, length}
use Rattle.blocks.specs.Bytes.{block_count}
use Rattle.links.specs.declared.Sender.{Sender}
use Rattle.masking.specs.{Shares.Index, Shares.Reader, Call.encryption}
use Rattle.runs.specs.Run.{lane_of}
use Rattle.walks.specs.{declared.watch.Watch.Watch, declared.Walk.Walk}
use Rattle.calls.specs.{Numbered.call_count, Sealed.sealing, Sealed.sealing_calls}
use Rattle.path.specs.Path.{SealingDone}
use Rattle.outgoing.specs.Outgoing.{lane_in}
use Rattle.outgoing.proofs.Seen.{lane-seen}

-- the text that was walked is the message
pub lane-shown : (x : Sender) {m text : List ℕ} → text ≡ m → {M : Reader} {a : Watch} {outs : List (List ℕ)} {w : Walk}
    → SealingDone (sealing x text) M a outs w → 1 ≤ a.call → a.call ≤ call_count (block_count (length m)) → (i : Index)
    → lane_in w.seen i ≡ lane_of encryption (sealing_calls x m) M a.call a.pair i
lane-shown x same {M} {a} {outs} {w} A l h i =
    lane-seen (subst (λ (m : List ℕ). SealingDone (sealing x m) M a outs w) same A).walked l h i
