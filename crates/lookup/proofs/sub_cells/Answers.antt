-- `sub_cells` meets its contract: antt computes all 256 entries of its table. Assumes nothing.
use Rattle.prelude.proofs.{refl, ◌∙◌, rules}
use Rattle.bits.specs.Bit.{bit}
use Rattle.blocks.specs.Bytes.{tab}
use Rattle.baksheesh.specs.Baksheesh.{sbox}
use Rattle.lookup.specs.TwoCells.{two_cells}
use Rattle.lookup.proofs.TwoCells.{looked-up}
use Rattle.lookup.proofs.sub_cells.Goals as goal

pub returns : goal.returns
unfolding tab two_cells bit
returns c = c.look_up.ensures ∙ looked-up sbox _ c.args.s (λ i. search rules) refl
