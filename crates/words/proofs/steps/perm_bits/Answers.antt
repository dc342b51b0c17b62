-- `perm_bits` meets its contract: a test for each word of where its bits come from. Assumes nothing.
use Rattle.prelude.proofs.{refl, List, ℕ, arith, mask_lt, shr_lt, get_or, rules}
use Rattle.bits.proofs.XorOfBits.{Made, own, down, xored, masked, shl, shr, wider, narrower, through}
use Rattle.words.proofs.{Moves.inputs, Moves.rearranges, Turned.turned_up}
use Rattle.words.proofs.steps.perm_bits.Goals as goal

pub returns : goal.returns
returns c =
    let s : List ℕ = c.args.s in
    let w : (j : ℕ) → Made 64 s (get_or s j 0) (down 32 0 (own j)) =
    λ j. wider (inputs s (λ j. search rules) j) 64 (omega arith) (omega arith) in
    let p = c.perm_words-x in
    let q = c.perm_words-y in
    let x = through (xored (w 0) (shl (w 1) 32)) p.type_inv _ p.ensures tt in
    let y = through (xored (w 2) (shl (w 3) 32)) q.type_inv _ q.ensures tt in
    let a = narrower (masked x 0xffff_ffff) 32 (omega arith) (mask_lt p.result 32) in
    let b = narrower (shr x 32) 32 (omega arith) (shr_lt 32 32 p.type_inv) in
    let e = narrower (masked y 0xffff_ffff) 32 (omega arith) (mask_lt q.result 32) in
    let d = narrower (shr y 32) 32 (omega arith) (shr_lt 32 32 q.type_inv) in
    rearranges _ (turned_up a 8 24 refl c.rotate_left.ensures) (turned_up b 16 16 refl c.rotate_left-2.ensures)
    (turned_up e 24 8 refl c.rotate_left-3.ensures) d tt tt tt tt tt
