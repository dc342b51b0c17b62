-- `cut_share` meets its contract: the first bytes copied over zeros. Assumes nothing.
use Rattle.prelude.proofs.{ap, ◌∙◌, List, ◌++◌, ℕ, drop, replicate}
use Rattle.inputs.proofs.Texts.{cut-copied}
use Rattle.inputs.proofs.cut_share.Goals as goal

pub returns : goal.returns
returns c =
    ap (λ (xs : List ℕ). xs ++ drop c.args.n (replicate 16 0)) c.copy_from_slice.ensures.after
    ∙ cut-copied c.args.at c.args.n c.args.shares.now c.requires.1
