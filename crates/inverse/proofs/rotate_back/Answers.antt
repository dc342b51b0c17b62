-- `rotate_back` meets its contract: a test for each word of where its bits come from. Assumes nothing.
use Rattle.prelude.proofs.{refl, rules}
use Rattle.words.proofs.{Moves.inputs, Moves.rearranges, Turned.turned_up}
use Rattle.inverse.proofs.rotate_back.Goals as goal

pub returns : goal.returns
returns c =
    let w = inputs c.args.k (λ j. search rules) in
    rearranges _ (turned_up (w 3) 1 31 refl c.rotate_left.ensures) (w 0) (w 1) (w 2) tt tt tt tt tt
