-- `unpack` meets its contract: it takes the way of `pack` back. Assumes nothing.
use Rattle.prelude.proofs.{sym, ap, ◌∙◌}
use Rattle.blocks.specs.Bits.{rearranged}
use Rattle.packing.specs.Bytes.{reversed}
use Rattle.words.proofs.Words.{unpacked-block}
use Rattle.packing.proofs.Bytes.{interleave, interleaved, reversed-twice}
use Rattle.packing.proofs.unpack.Goals as goal

pub returns : goal.returns
returns c =
    (λ i. interleave (c.scatter-a.ensures i) (c.scatter-b.ensures i) (c.scatter-c.ensures i) (c.scatter-d.ensures i))
    ∙ sym (interleaved _)
    ∙ ap (rearranged (reversed 5)) c.transpose-w.ensures
    ∙ reversed-twice _ (unpacked-block _)
