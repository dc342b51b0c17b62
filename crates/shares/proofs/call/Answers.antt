-- `call` meets its contract: the rounds up to the pair that is shown, and the rest. Assumes nothing.
use Rattle.prelude.proofs.{ap, ◌∙◌}
use Rattle.masking.specs.Shares.{add}
use Rattle.shares.proofs.Onward.{call-done}
use Rattle.shares.proofs.call.Goals as goal

pub returns-clause-done : goal.returns-clause-done
returns-clause-done c =
    let shown = c.run_rounds-shown.ensures in
    let masked = c.mask-state.ensures ∙ ap (add _) c.draw.ensures.masks in
    call-done _ _ _ _ c.requires.0 c.requires.1 _ _ _ _ _ _ c.add_shares.ensures masked c.draw.ensures.drawn
    shown.rounds shown.drawn c.run_rounds-last.ensures.rounds c.shown_key.ensures
