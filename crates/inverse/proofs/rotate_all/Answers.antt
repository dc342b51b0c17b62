-- `rotate_all` meets its contract: a test for each word of where its bits come from. Assumes nothing.
use Rattle.prelude.proofs.{refl, rules}
use Rattle.words.proofs.{Moves.inputs, Moves.rearranges, Turned.turned_down}
use Rattle.inverse.proofs.rotate_all.Goals as goal

pub returns : goal.returns
returns c =
    let w = inputs c.args.k (λ j. search rules) in
    rearranges _ (turned_down (w 3) 24 8 refl c.rotate_right.ensures) (turned_down (w 0) 23 9 refl c.rotate_right-2.ensures)
    (turned_down (w 1) 23 9 refl c.rotate_right-3.ensures) (turned_down (w 2) 23 9 refl c.rotate_right-4.ensures) tt tt tt tt tt
