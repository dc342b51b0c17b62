-- `put_head` meets its contract: two numbers, one behind the other. Assumes nothing.
use Rattle.prelude.proofs.{ap, ◌∙◌, arith}
use Rattle.blocks.specs.Bytes.{big_endian, put}
use Rattle.blocks.proofs.{Numbers.big_endian-length, Parts.put-put}
use Rattle.links.specs.Record.{number_size}
use Rattle.links.proofs.put_head.Goals as goal

pub returns : goal.returns
returns c =
    let a = c.args in
    let n = big_endian-length number_size a.nonce.number in
    c.put_number-2.ensures ∙ ap (put number_size _) c.put_number.ensures
    ∙ put-put 0 (big_endian number_size a.nonce.number) (big_endian a.form.sequence a.nonce.sequence) a.out.now number_size (omega arith)
    (omega arith)
