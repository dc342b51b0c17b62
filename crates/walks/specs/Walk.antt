-- The calls of a run one after the other, as code takes them, with one pair of masks of one call watched. Assumes nothing.
use Rattle.std.specs.Prelude.{◌≡◌, ℕ, ◌+◌, ◌-◌, ◌≤◌}
use Rattle.masking.specs.Shares.{Shares, Reader, at}
use Rattle.masking.specs.Stages.{Stages, masks_size, call, masked, shown_shares}
use Rattle.shares.specs.declared.Seen.{Seen}
use Rattle.shares.specs.Packed.{shares_of}
use Rattle.runs.specs.Run.{Run, key_shares, input_of}
use Rattle.walks.specs.declared.watch.Watch.{Watch}
use Rattle.walks.specs.declared.Walk.{Walk}

-- s is what the pair numbered n shows of a call of the stages D, of key shares k and input shares x, whose masks begin at o
pub record Shown (D : Stages) (k x : Shares) (M : Reader) (o n : ℕ) (s : Seen) : Type 0 where
  pub state : shares_of s.state ≡ masked D k x M o (n - 1)
  pub key : shares_of s.key ≡ shown_shares D k x M o (n - 1)

-- from w, one such call leads to r
pub record Stepped (D : Stages) (k x : Shares) (M : Reader) (a : Watch) (w r : Walk) : Type 0 where
  pub out : shares_of r.out ≡ call D k x M w.tape.used
  pub calls : r.calls ≡ w.calls + 1
  pub tape : r.tape ≡ record w.tape { used = w.tape.used + masks_size D }
  pub watch : r.watch ≡ w.watch
  pub hit : w.calls + 1 ≡ a.call → Shown D k x M w.tape.used a.pair r.seen
  pub miss : (w.calls + 1 ≡ a.call → ⊥) → r.seen ≡ w.seen

-- w stands behind the first k calls of a run whose masks are read by M; what is watched, if it was passed, is seen
pub record Walked (D : Stages) (R : Run) (M : Reader) (a : Watch) (k : ℕ) (w : Walk) : Type 0 where
  pub calls : w.calls ≡ k
  pub used : w.tape.used ≡ R.begins (k + 1)
  pub reads : at w.tape.bytes.now ≡ M
  pub watch : w.watch ≡ a
  pub saw : 1 ≤ a.call → a.call ≤ k
      → Shown D (key_shares D R M a.call) (input_of D R M a.call) M (R.begins a.call) a.pair w.seen
