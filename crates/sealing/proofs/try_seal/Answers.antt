-- `try_seal` meets its contract: the refusals of its inputs, that of its output, and the record. Assumes nothing.
use Rattle.prelude.proofs.{sym, ap, ◌∙◌, List, [], ◌∷◌, ℕ, ◌+◌, arith, length}
use Rattle.std.proofs.lemmas.Result.{err_from_is_err_and}
use Rattle.blocks.specs.Bytes.{put}
use Rattle.answers.specs.Answer.{done}
use Rattle.answers.proofs.First.{if-refused, if-done}
use Rattle.sealing.proofs.{Answers.inputs-refused, Answers.room-refused, Answers.seal-done}
use Rattle.sealing.proofs.{Record.tape-used, Record.tag-made, Record.record-made}
use Rattle.sealing.proofs.try_seal.Goals as goal

pub returns-in_err-test_inputs-clause-refused : goal.returns-in_err-test_inputs-clause-refused
returns-in_err-test_inputs-clause-refused c =
    let p = err_from_is_err_and c.from_residual.result c.from_residual.ensures.1 in
    rw (p.1, p.2) (inputs-refused _ _ _ _ c.in_err-test_inputs.ensures)

pub returns-in_err-test_inputs-clause-out_after : goal.returns-in_err-test_inputs-clause-out_after
returns-in_err-test_inputs-clause-out_after c = if-refused (inputs-refused _ _ _ _ c.in_err-test_inputs.ensures) _ _

pub returns-then-out-len-clause-refused : goal.returns-then-out-len-clause-refused
returns-then-out-len-clause-refused c =
    room-refused _ _ _ _ c.in_ok-test_inputs.ensures c.form-form.ensures c.added.ensures (omega arith)

pub returns-then-out-len-clause-out_after : goal.returns-then-out-len-clause-out_after
returns-then-out-len-clause-out_after c = if-refused (returns-then-out-len-clause-refused c) _ _

pub returns-clause-sealed : goal.returns-clause-sealed
returns-clause-sealed c =
    let used = tape-used c.args.link c.of-text.ensures c.run-walk.ensures in
    let d = seal-done _ _ _ _ c.in_ok-test_inputs.ensures c.form-form.ensures c.added.ensures (omega arith) in (
      ap (λ (u : ℕ). done ((length c.args.message.now + c.added.result) ∷ u ∷ [])) used ∙ sym d,
      if-done d _ _,
      tag-made c.args.link c.of-text.ensures c.run-walk.ensures _ c.unpack_shares-shares.ensures ∙ if-done d _ _,
    )

pub returns-clause-out_after : goal.returns-clause-out_after
returns-clause-out_after c =
    let d = seal-done _ _ _ _ c.in_ok-test_inputs.ensures c.form-form.ensures c.added.ensures (omega arith) in
    c.put_record.ensures
    ∙ ap (λ (z : List ℕ). put 0 z c.args.out.now)
    (record-made c.args.link c.of-text.ensures c.run-walk.ensures _ c.form-form.ensures _ c.unpack_shares-shares.ensures)
    ∙ if-done d _ _
