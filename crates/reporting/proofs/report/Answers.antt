-- `report` meets its contract: the refusals of its inputs, those of the lane's numbers, and the lane. Assumes nothing.
use Rattle.prelude.proofs.{sym, ap, ◌∙◌, List, ℕ}
use Rattle.std.proofs.lemmas.Result.{err_from_is_err_and}
use Rattle.blocks.specs.Bytes.{put}
use Rattle.answers.specs.Answer.{number_of}
use Rattle.answers.proofs.First.{if-refused, if-done}
use Rattle.masking.specs.Shares.{index_of}
use Rattle.calls.proofs.Accepted.{passed-sealable, report-tells}
use Rattle.reporting.proofs.{Answers.inputs-refused, Answers.lane-tested, Lane.lane-shown}
use Rattle.reporting.proofs.report.Goals as goal

pub returns-in_err-test_inputs-clause-result_value : goal.returns-in_err-test_inputs-clause-result_value
returns-in_err-test_inputs-clause-result_value c =
    let p = err_from_is_err_and c.from_residual.result c.from_residual.ensures.1 in
    rw (p.1, p.2) (sym (inputs-refused _ _ _ _ _ _ _ c.in_err-test_inputs.ensures))

pub returns-in_err-test_inputs-clause-out_after : goal.returns-in_err-test_inputs-clause-out_after
returns-in_err-test_inputs-clause-out_after c = if-refused (inputs-refused _ _ _ _ _ _ _ c.in_err-test_inputs.ensures) _ _

pub returns-in_err-test_lane-clause-result_value : goal.returns-in_err-test_lane-clause-result_value
returns-in_err-test_lane-clause-result_value c =
    let p = err_from_is_err_and c.from_residual-in_err-test_lane.result c.from_residual-in_err-test_lane.ensures.1 in
    rw (p.1, p.2)
    (sym (lane-tested _ _ _ _ _ _ _ c.in_ok-test_inputs.ensures c.call_count-calls.ensures c.in_err-test_lane.ensures))

pub returns-in_err-test_lane-clause-out_after : goal.returns-in_err-test_lane-clause-out_after
returns-in_err-test_lane-clause-out_after c =
    if-refused (lane-tested _ _ _ _ _ _ _ c.in_ok-test_inputs.ensures c.call_count-calls.ensures c.in_err-test_lane.ensures) _ _

pub returns-clause-result_value : goal.returns-clause-result_value
returns-clause-result_value c =
    sym (lane-tested _ _ _ _ _ _ _ c.in_ok-test_inputs.ensures c.call_count-calls.ensures c.in_ok-test_lane.ensures)

pub returns-clause-out_after : goal.returns-clause-out_after
returns-clause-out_after c =
    let a = c.args in
    let S = passed-sealable a.link a.message.now a.tape.now (sym c.in_ok-test_inputs.ensures) in
    let shown = lane-tested _ _ _ _ _ _ _ c.in_ok-test_inputs.ensures c.call_count-calls.ensures c.in_ok-test_lane.ensures in
    let k = ((report-tells _ _ _ _ _ _ _ S).shown.0 (ap number_of shown)).0 in
    let lane = lane-shown a.link c.of-text.ensures c.run-walk.ensures k.0 k.1 (index_of a.lane) in
    c.put_bytes.ensures ∙ ap (λ (z : List ℕ). put 0 z a.out.now) (c.lane_of.ensures ∙ lane) ∙ if-done shown _ _
