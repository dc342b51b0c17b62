-- `run_rounds` meets its contract. The loop has done the rounds up to the one numbered n, with their masks. Assumes nothing.
use Rattle.prelude.proofs.{◌≡◌, ◌+◌, ◌-◌, ◌*◌}
use Rattle.masking.specs.Shares.{at, pair_size}
use Rattle.shares.specs.Packed.{shares_of, Onward}
use Rattle.shares.proofs.run_rounds.Given as goal

abbrev pub invariant-loop-n : goal.invariant-loop-n
invariant-loop-n l = record {
  went : Onward (at l.fn.tape.bytes.now) l.fn.tape.used l.from (shares_of l.fn.start.state) (shares_of l.fn.start.key) (l.n - l.from)
      (record { state = l.state; key = l.key });
  drawn : l.tape ≡ record l.fn.tape { used = l.fn.tape.used + pair_size * (l.n - l.from) };
}
