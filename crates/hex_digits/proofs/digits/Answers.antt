-- `digits` meets its contract. Assumes nothing.
use Rattle.prelude.proofs.{◌∙◌, rules}
use Rattle.blocks.proofs.Parts.{put_whole}
use Rattle.hex_digits.proofs.Laws.{hex-length}
use Rattle.hex_digits.proofs.digits.Goals as goal

pub returns : goal.returns
returns c = c.put_digits.ensures ∙ put_whole _ _ (hex-length _ ∙ search rules)
