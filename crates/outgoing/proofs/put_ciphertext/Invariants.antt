-- `put_ciphertext` meets its contract. The loop has written the first j blocks, each under a whole block. Assumes nothing.
use Rattle.prelude.proofs.{◌≡◌, ℕ, ◌<◌, length}
use Rattle.modes.proofs.Stream.{written}
use Rattle.masking.specs.Shares.{join}
use Rattle.inputs.specs.Inputs.{out_at}
use Rattle.outgoing.proofs.Stream.{whole}
use Rattle.outgoing.proofs.put_ciphertext.Given as goal

abbrev pub invariant-loop-j : goal.invariant-loop-j
invariant-loop-j l = record {
  wrote : l.out ≡ written whole (λ j. join (out_at j l.outs)) l.message l.at l.fn.out l.j;
  sized : (k : ℕ) → k < l.j → length (join (out_at k l.outs)) ≡ 16;
}
