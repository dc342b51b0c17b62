-- `three_blocks` meets its contract: three blocks written one behind the other. Assumes nothing.
use Rattle.prelude.proofs.{ap, ◌∙◌, rules}
use Rattle.blocks.specs.Bytes.{put}
use Rattle.blocks.proofs.Parts.{put_three}
use Rattle.blocks.proofs.three_blocks.Goals as goal

pub returns : goal.returns
returns c =
    c.put_bytes-3.ensures
    ∙ ap (put 32 _) (c.put_bytes-2.ensures ∙ ap (put 16 _) c.put_bytes.ensures)
    ∙ put_three _ _ _ _ 16 32 (search rules) (search rules) (search rules)
