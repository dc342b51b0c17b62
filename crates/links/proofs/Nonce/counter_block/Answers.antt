-- `Nonce::counter_block` meets its contract: three numbers written one behind the other over a whole block. Assumes nothing.
use Rattle.prelude.proofs.{ap, ◌∙◌, arith}
use Rattle.blocks.specs.Bytes.{big_endian, put}
use Rattle.blocks.proofs.{Numbers.big_endian-length, Parts.put_three}
use Rattle.links.specs.Record.{number_size, index_size, sequence_most, counter_block}
use Rattle.links.proofs.Nonce.counter_block.Goals as goal

pub returns : goal.returns
unfolding counter_block
returns c =
    let a = c.args in
    let n = big_endian-length number_size a.self.number in
    let s = big_endian-length sequence_most a.self.sequence in
    let i = big_endian-length index_size a.i in
    c.put_number-3.ensures ∙ ap (put _ _) (c.put_number-2.ensures ∙ ap (put _ _) c.put_number.ensures)
    ∙ put_three (big_endian number_size a.self.number) (big_endian sequence_most a.self.sequence) (big_endian index_size a.i) _ _ _
    (omega arith) (omega arith) (omega arith)
