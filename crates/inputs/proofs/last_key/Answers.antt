-- `last_key` meets its contract: doubled once, or twice. Assumes nothing.
use Rattle.prelude.proofs.{ap, ◌∙◌}
use Rattle.modes.specs.Cmac.{doubled}
use Rattle.masking.specs.Shares.{each}
use Rattle.inputs.proofs.Texts.{key-once, key_twice}
use Rattle.inputs.proofs.last_key.Goals as goal

pub returns-then-len-eq0 : goal.returns-then-len-eq0
returns-then-len-eq0 c = key-once _ _ _ c.if-len-eq0.true c.double_shares-first.ensures

pub returns-else-len-eq0 : goal.returns-else-len-eq0
returns-else-len-eq0 c = key_twice _ _ _ c.if-len-eq0.false (c.double_shares.ensures ∙ ap (each doubled) c.double_shares-first.ensures)
