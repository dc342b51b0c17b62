-- `put_record` meets its contract: a record written field by field. Assumes nothing.
use Rattle.prelude.proofs.{◌≡◌, ap, ◌∙◌, List, ℕ, ◌+◌, ◌-◌, arith, length, take, get_or, w8, Fits, rules}
use Rattle.blocks.specs.Bytes.{Block, part, put}
use Rattle.baksheesh.specs.Baksheesh.{encrypt}
use Rattle.baksheesh.proofs.Inverse.{encrypt-block}
use Rattle.links.proofs.Fields.{text-there, record-put}
use Rattle.plain.specs.Plain.{crypted, mac_of, plain_record}
use Rattle.plain.proofs.Sealed.{crypted-length}
use Rattle.plain_sealing.proofs.put_record.Goals as goal

pub returns : goal.returns
unfolding plain_record
returns c =
    let a = c.args in
    let n = a.nonce.number in
    let s = a.nonce.sequence in
    let block : Block a.ke = record {
      size = search rules;
      bytes = λ j. let f : Fits w8 (get_or a.ke j 0) = search rules in f.fits;
    } in
    let view = ap length c.message.view_is in
    let head = c.head-head in
    let end : ℕ = head.result + length c.message.inside.bytes.now in
    let text : List ℕ = crypted (encrypt a.ke) n s a.message.now in
    -- the ciphertext is as long as the message
    let size : length text ≡ length a.message.now = crypted-length _ (λ b w. encrypt-block a.ke b block w) _ _ _ in
    let written = c.crypt.ensures ∙ (λ i. put (head.ensures i) text (c.put_head.ensures i)) in
    let there =
    c.of.ensures ∙ (λ i. part (head.ensures i) (end - head.result) (written i))
    ∙ text-there a.form n s text a.out.now (omega arith) (end - head.result) (omega arith) in
    let code = c.mac-code.ensures ∙ ap (mac_of (encrypt a.km) n s) there in
    c.put_bytes.ensures
    ∙ (λ i. put end (take a.form.tag (code i)) (written i))
    ∙ record-put a.form n s text a.out.now (omega arith) _ end (omega arith)
