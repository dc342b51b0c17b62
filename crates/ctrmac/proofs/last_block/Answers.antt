-- `last_block` meets its contract: the padded block and the whole one. Assumes nothing.
use Rattle.prelude.proofs.{◌≡◌, ◌<◌, arith, length}
use Rattle.blocks.specs.Bytes.{piece}
use Rattle.baksheesh.specs.Baksheesh.{encrypt}
use Rattle.words.specs.Words.{unpacked}
use Rattle.modes.proofs.{Pieces.piece-length, Cmac.last-whole, Cmac.last-padded}
use Rattle.ctrmac.proofs.last_block.Goals as goal

pub returns-then-text-at-lt16 : goal.returns-then-text-at-lt16
returns-then-text-at-lt16 c =
    let a = c.args in
    let h : length (piece a.j a.text.now) < 16 = omega (arith, piece-length a.j a.text.now) in
    let e = last-padded (encrypt (unpacked a.key)) (piece a.j a.text.now) h in
    cc

pub returns : goal.returns
returns c =
    let a = c.args in
    let h : length (piece a.j a.text.now) ≡ 16 = omega (arith, piece-length a.j a.text.now) in
    let e = last-whole (encrypt (unpacked a.key)) (piece a.j a.text.now) h in
    cc
