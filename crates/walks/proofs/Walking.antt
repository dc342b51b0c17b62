-- The calls of a run one after the other: each leads behind itself, and gives the run's output. Assumes nothing.
use Rattle.prelude.proofs.{◌≡◌, sym, ap, ◌∙◌, subst, ℕ, ◌+◌, ◌-◌, ℕ_discrete, arith}
use Rattle.masking.specs.{Shares.Shares, Shares.Reader, Shares.at}
use Rattle.masking.specs.Stages.{Stages, masks_size, call, masked, shown_shares}
use Rattle.shares.specs.{declared.Tape.Tape, Packed.shares_of}
use Rattle.runs.specs.Run.{Run, key_shares, input_of, output_of}
use Rattle.walks.specs.Walk.{Stepped, Walked}
use Rattle.walks.specs.{declared.watch.Watch.Watch, declared.Walk.Walk}

module _ (D : Stages) (R : Run) (M : Reader) (a : Watch) where
  pub walked_at : {k l : ℕ} {w : Walk} → k ≡ l → Walked D R M a k w → Walked D R M a l w
  walked_at {w = w} e W = subst (λ (j : ℕ). Walked D R M a j w) e W

  -- call n comes next: it leads behind itself, and gives its output
  module _ (k n : ℕ) (number : n ≡ k + 1) (next : R.begins n + masks_size D ≡ R.begins (n + 1)) {key input : Shares}
      (ek : key ≡ key_shares D R M n) (ei : input ≡ input_of D R M n) {w r : Walk}
      (W : Walked D R M a k w) (stepped : Stepped D key input (at w.tape.bytes.now) w.watch w r) where
    S : Stepped D key input M a w r
    S = subst (λ (b : Watch). Stepped D key input M b w r) W.watch
        (subst (λ (N : Reader). Stepped D key input N w.watch w r) W.reads stepped)

    there : w.tape.used ≡ R.begins n
    there = W.used ∙ ap R.begins (sym number)

    walked_more : Walked D R M a n r
    walked_more = record {
      calls = omega (arith, S.calls, W.calls);
      used = ap (λ (t : Tape). t.used) S.tape ∙ ap (λ (u : ℕ). u + masks_size D) there ∙ next;
      reads = ap (λ (t : Tape). at t.bytes.now) S.tape ∙ W.reads;
      watch = S.watch ∙ W.watch;
      saw = λ l h. elim (ℕ_discrete n a.call) [
        | yes d ↦
            let s = S.hit (ap (λ (z : ℕ). z + 1) W.calls ∙ sym number ∙ d) in
            record {
              state = s.state ∙ λ i. masked D ((ek ∙ ap (key_shares D R M) d) i) ((ei ∙ ap (input_of D R M) d) i) M
                  ((there ∙ ap R.begins d) i) (a.pair - 1);
              key = s.key ∙ λ i. shown_shares D ((ek ∙ ap (key_shares D R M) d) i) ((ei ∙ ap (input_of D R M) d) i) M
                  ((there ∙ ap R.begins d) i) (a.pair - 1);
            }
        | no d ↦ rw (S.miss (λ f. d (omega (arith, W.calls)))) (W.saw l (omega arith))
      ];
    }

    pub step-more : Walked D R M a n r × (shares_of r.out ≡ output_of D R M n)
    unfolding output_of
    step-more = (walked_more, S.out ∙ λ i. call D (ek i) (ei i) M (there i))
