-- The values of links in their bytes hold. Assumes nothing.
use Rattle.prelude.proofs.{refl}
use Rattle.bits.specs.Bit.{bit}
use Rattle.blocks.specs.Bytes.{◌⊕◌, zeros, tab, big_endian, value}
use Rattle.blocks.specs.Bits.{block_of, bit_at, cells, rearranged, each_cell}
use Rattle.baksheesh.specs.Baksheesh.{constant, after, encrypt}
use Rattle.engines.specs.Block.{block_answer}
use Rattle.modes.specs.Ctr.{ctr_to, ctr}
use Rattle.modes.specs.Cmac.{doubled, chain, last_block, subkey₁, cmac}
use Rattle.links.specs.Record.{counter_block, record_of}
use Rattle.window.specs.Window.{shifted}
use Rattle.plain.specs.Plain.{plain_record}
use Rattle.opening.specs.Open.{open_answer}
use Rattle.layout.specs.Keying.{keying_answer}
use Rattle.sending.specs.Calls.{sealed_answer}
use Rattle.values.specs.Row.{Hold}
use Rattle.values.proofs.Rows.{same, hold}
use Rattle.link_values.specs.Links.{link_rows}

pub links-hold : Hold link_rows
unfolding same bit ◌⊕◌ zeros tab big_endian value block_of bit_at cells rearranged each_cell constant after encrypt ctr_to ctr doubled chain
    last_block subkey₁ cmac counter_block record_of shifted plain_record block_answer open_answer keying_answer sealed_answer
links-hold = hold link_rows refl
