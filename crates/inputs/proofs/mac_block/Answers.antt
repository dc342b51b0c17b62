-- `mac_block` meets its contract: counter block 0, and a block of the ciphertext. Assumes nothing.
use Rattle.prelude.proofs.{ap, ◌∙◌}
use Rattle.masking.specs.Shares.{only}
use Rattle.inputs.proofs.Texts.{mac-first, mac-next}
use Rattle.inputs.proofs.mac_block.Goals as goal

pub returns-then-j-eq0 : goal.returns-then-j-eq0
returns-then-j-eq0 c =
    mac-first _ _ _ _ _ _ c.if-j-eq0.true (c.only.ensures ∙ ap only (c.pack.ensures ∙ c.counter_block.ensures))

pub returns : goal.returns
returns c = mac-next _ _ _ _ _ _ c.if-j-eq0.false c.text_block.ensures
