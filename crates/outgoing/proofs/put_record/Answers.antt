-- `put_record` meets its contract: a record written field by field. Assumes nothing.
use Rattle.prelude.proofs.{ap, ◌∙◌, List, ℕ, ◌+◌, arith, length, take}
use Rattle.blocks.specs.Bytes.{put}
use Rattle.links.proofs.Fields.{record-put}
use Rattle.outgoing.specs.Outgoing.{ciphertext_of}
use Rattle.outgoing.proofs.put_record.Goals as goal

pub returns : goal.returns
returns c =
    let a = c.args in
    let n = a.nonce in
    let head = c.head-head in
    let text : List ℕ = ciphertext_of a.message.now a.outs.now in
    let end : ℕ = head.result + length c.message.inside.bytes.now in
    let written = c.put_ciphertext.ensures.written ∙ (λ i. put (head.ensures i) text (c.put_head.ensures i)) in
    c.put_bytes.ensures
    ∙ (λ i. put end (take a.form.tag (c.joined.ensures i)) (written i))
    ∙ record-put a.form n.number n.sequence text a.out.now (omega arith) _ end
    (omega (arith, head.ensures, ap length c.message.view_is, c.put_ciphertext.ensures.size))
