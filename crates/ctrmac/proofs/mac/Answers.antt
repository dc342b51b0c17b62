-- `mac` meets its contract: for an empty text, and for one with a last block. Assumes nothing.
use Rattle.prelude.proofs.{◌≡◌, length, rules}
use Rattle.baksheesh.specs.Baksheesh.{encrypt}
use Rattle.ctrmac.proofs.Authenticated.{mac-empty, mac-last}
use Rattle.ctrmac.proofs.mac.Goals as goal

pub returns-then-is_empty : goal.returns-then-is_empty
returns-then-is_empty c =
    let nonce = c.args.nonce in
    let none : length c.text.inside.bytes.now ≡ 0 = search rules in
    let e = mac-empty (encrypt c.args.km) nonce.number nonce.sequence c.text.inside.bytes.now none in
    cc

pub returns : goal.returns
returns c =
    let nonce = c.args.nonce in
    let some : length c.text.inside.bytes.now ≡ 0 → ⊥ = search rules in
    let e = mac-last (encrypt c.args.km) nonce.number nonce.sequence c.text.inside.bytes.now some in
    cc
