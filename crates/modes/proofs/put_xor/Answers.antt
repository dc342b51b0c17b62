-- `put_xor` meets its contract. The loop has written the first i bytes. Assumes nothing.
use Rattle.prelude.proofs.{◌≡◌, sym, ap, ◌∙◌, List, ℕ, arith, length, get_or, bit_xor, rules}
use Rattle.blocks.specs.Bytes.{◌⊕◌, put, piece}
use Rattle.blocks.proofs.Xor.{⊕-length}
use Rattle.blocks.proofs.Parts.{tab-list, fill_none, fill_more, fill_done}
use Rattle.modes.proofs.{Pieces.piece-le, Written.⊕-at}
use Rattle.modes.proofs.put_xor.Goals as goal

pub loop-i-init : goal.loop-i-init
loop-i-init c = fill_none _ _ _

pub loop-i-preserved : goal.loop-i-preserved
loop-i-preserved c =
    let a = c.args in
    let p = c.piece-byte-items in
    let same = ap length p.ensures in
    let size : length a.key ≡ 16 = search rules in
    let short = piece-le a.j a.text.now in
    fill_more a.at c.loop-i.i _ _ _ _ c.loop-i.invariant (omega arith)
    (ap (λ (xs : List ℕ). bit_xor (get_or xs c.loop-i.i 0) (get_or a.key c.loop-i.i 0)) p.ensures
    ∙ sym (⊕-at (piece a.j a.text.now) a.key c.loop-i.i (omega arith) (omega arith)))

pub returns : goal.returns
returns c =
    let a = c.args in
    let same = ap length c.piece-byte-items.ensures in
    let xs : List ℕ = piece a.j a.text.now ⊕ a.key in
    let size : length a.key ≡ 16 = search rules in
    fill_done a.at c.loop-i.i (length xs) _ _ _ c.loop-i.invariant
    (omega (arith, ⊕-length (piece a.j a.text.now) a.key, piece-le a.j a.text.now))
    ∙ ap (λ (z : List ℕ). put a.at z a.out.now) (tab-list xs)
