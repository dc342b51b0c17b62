-- What the report answers: its inputs are refused, or what the test of the lane's numbers says. Assumes nothing.
use Rattle.prelude.proofs.{◌≡◌, sym, ap, ◌∙◌, List, [], ℕ, length}
use Rattle.blocks.specs.Bytes.{block_count}
use Rattle.answers.specs.Answer.{Answer, done, refused, first}
use Rattle.answers.proofs.First.{refused-before}
use Rattle.links.specs.declared.Sender.{Sender}
use Rattle.masking.specs.Call.{pair_count}
use Rattle.runs.specs.Lanes.{lane_causes}
use Rattle.calls.specs.{Numbered.call_count, Entry.input_causes, Entry.report_answer}
use Rattle.calls.proofs.Accepted.{passed-sealable, report-answer}

module _ (x : Sender) (m t : List ℕ) (k r i o : ℕ) where
  pub inputs-refused : {n : ℕ} → refused n ≡ first (input_causes x m t []) (done []) → report_answer x m t k r i o ≡ refused n
  unfolding report_answer
  inputs-refused {n} e =
      refused-before n (input_causes x m t []) (lane_causes (call_count (block_count (length m))) pair_count k r i o) [] (done []) (sym e)

  -- where its inputs pass, with the calls that were counted
  pub lane-tested : {a : Answer} {n : ℕ} → done [] ≡ first (input_causes x m t []) (done []) → n ≡ call_count (block_count (length m))
      → a ≡ first (lane_causes n pair_count k r i o) (done []) → report_answer x m t k r i o ≡ a
  lane-tested p e h =
      report-answer x m t k r i o (passed-sealable x m t (sym p))
      ∙ sym (h ∙ ap (λ (n : ℕ). first (lane_causes n pair_count k r i o) (done [])) e)
