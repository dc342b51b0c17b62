-- `pack` meets its contract: its words hold the block's bytes, and the transposition sets each bit right. Assumes nothing.
use Rattle.prelude.proofs.{refl, ◌∙◌, rules}
use Rattle.blocks.specs.Bytes.{tab}
use Rattle.blocks.proofs.ByBytes.{tab-known}
use Rattle.packing.proofs.Bytes.{interleave, interleaved}
use Rattle.packing.proofs.pack.Goals as goal

pub returns : goal.returns
unfolding tab
returns c =
    c.transpose.ensures
    ∙ interleaved _
    ∙ (λ i. interleave (c.gather.ensures i) (c.gather-2.ensures i) (c.gather-3.ensures i) (c.gather-4.ensures i))
    ∙ tab-known {n = 16} _ c.args.b (search rules) (λ k h. refl)
