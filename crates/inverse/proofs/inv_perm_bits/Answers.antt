-- `inv_perm_bits` meets its contract: a test for each word of where its bits come from. Assumes nothing.
use Rattle.prelude.proofs.{refl, rules}
use Rattle.bits.proofs.XorOfBits.{through}
use Rattle.words.proofs.{Moves.inputs, Moves.rearranges, Turned.turned_down}
use Rattle.inverse.proofs.inv_perm_bits.Goals as goal

pub returns : goal.returns
returns c =
    let w = inputs c.args.s (λ j. search rules) in
    rearranges _
    (through (turned_down (w 0) 24 8 refl c.rotate_right.ensures) c.inv_perm_word.type_inv _ c.inv_perm_word.ensures tt)
    (through (turned_down (w 1) 16 16 refl c.rotate_right-2.ensures) c.inv_perm_word-2.type_inv _ c.inv_perm_word-2.ensures tt)
    (through (turned_down (w 2) 8 24 refl c.rotate_right-3.ensures) c.inv_perm_word-3.type_inv _ c.inv_perm_word-3.ensures tt)
    (through (w 3) c.inv_perm_word-4.type_inv _ c.inv_perm_word-4.ensures tt) tt tt tt tt tt
