-- The values hold. Assumes nothing.
use Rattle.prelude.proofs.{refl}
use Rattle.bits.specs.Bit.{bit}
use Rattle.blocks.specs.Bytes.{◌⊕◌, zeros, tab, big_endian, value}
use Rattle.blocks.specs.Bits.{block_of, bit_at, cells, rearranged, each_cell}
use Rattle.body.specs.Entry.{read_answer, values_answer, write_answer}
use Rattle.baksheesh.specs.Baksheesh.{constant, after, encrypt}
use Rattle.modes.specs.Ctr.{ctr_to, ctr}
use Rattle.modes.specs.Cmac.{doubled, chain, last_block, subkey₁, subkey₂, cmac}
use Rattle.links.specs.Record.{counter_block, record_of}
use Rattle.links.specs.Links.{key_answer}
use Rattle.masking.specs.Shares.{at}
use Rattle.masking.specs.Sbox.{form_share}
use Rattle.masking.specs.Stages.{state, masked, shown_shares, lane}
use Rattle.runs.specs.Run.{key_shares, input_of, lane_of}
use Rattle.window.specs.Window.{shifted}
use Rattle.plain.specs.Plain.{plain_record}
use Rattle.plain.specs.Entry.{plain_answer}
use Rattle.opening.specs.Open.{open_answer}
use Rattle.calls.specs.Numbered.{call_of}
use Rattle.calls.specs.Job.{mac_block, subkey, input_from}
use Rattle.calls.specs.Job as Job
use Rattle.calls.specs.Entry.{seal_answer, report_answer}
use Rattle.values.specs.{Row.Hold, Values.rows}
use Rattle.values.proofs.Rows.{same, hold}

pub values-hold : Hold rows
unfolding same bit block_of bit_at cells rearranged each_cell constant after encrypt ctr_to ctr doubled chain last_block subkey₁ subkey₂ cmac
    form_share counter_block record_of big_endian value tab ◌⊕◌ zeros at state masked shown_shares lane key_shares input_of lane_of call_of mac_block
    Job.chain subkey input_from shifted plain_record key_answer read_answer values_answer write_answer plain_answer open_answer
    seal_answer report_answer
values-hold = hold rows refl
