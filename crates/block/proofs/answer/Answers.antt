-- `answer` meets its contract: the ciphertext's digits, and a line feed behind them. Assumes nothing.
use Rattle.prelude.proofs.{ap, ap₂, ◌∙◌, arith, length-drop}
use Rattle.baksheesh.specs.Baksheesh.{encrypt}
use Rattle.hex_digits.specs.Hex.{hex_of}
use Rattle.block.proofs.Printed.{for_block}
use Rattle.block.proofs.answer.Goals as goal

pub returns : goal.returns
returns c =
    let cipher = c.encrypt.ensures ∙ ap₂ encrypt c.bytes_at-key.ensures c.bytes_at-block.ensures in
    let text = c.copy_from_slice.ensures.after ∙ c.digits-text.ensures ∙ ap hex_of cipher in
    for_block c.args.input.now _ _ c.if-input-ne32.false text (grind arith) (length-drop 32 c.args.out.now ∙ omega arith)
