-- `rotate` meets its contract: a test for each word of where its bits come from. Assumes nothing.
use Rattle.prelude.proofs.{refl, rules}
use Rattle.words.proofs.{Moves.inputs, Moves.rearranges, Turned.turned_down}
use Rattle.words.proofs.steps.rotate.Goals as goal

pub returns : goal.returns
returns c =
    let w = inputs c.args.k (λ j. search rules) in
    rearranges _ (w 1) (w 2) (w 3) (turned_down (w 0) 31 1 refl c.rotate_right.ensures) tt tt tt tt tt
