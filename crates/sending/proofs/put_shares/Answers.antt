-- `put_shares` meets its contract: the shares, and the count behind them. Assumes nothing.
use Rattle.prelude.proofs.{ap, ◌∙◌, rules}
use Rattle.blocks.specs.Bytes.{put}
use Rattle.blocks.proofs.Parts.{put-put}
use Rattle.sending.proofs.put_shares.Goals as goal

pub returns : goal.returns
returns c =
    let a = c.args in
    c.put_number.ensures ∙ ap (put 48 _) c.put_bytes.ensures ∙ put-put 0 a.tag _ a.shares.now 48 (search rules) (search rules)
