-- A block XORed byte by byte, and a short block padded where it stands. Assumes nothing.
use Rattle.prelude.proofs.{◌≡◌, refl, sym, ap, ◌∙◌, List, [], ◌∷◌, ◌++◌, append_assoc, ℕ, zero, suc, ◌+◌, ◌-◌, ◌≤◌, ◌<◌, arith, bit_xor}
use Rattle.prelude.proofs.{length, drop, get_or, set, replicate, length-append, length-take, length-drop, take_all}
use Rattle.blocks.specs.Bytes.{◌⊕◌, part, put}
use Rattle.blocks.proofs.Parts.{put-start, put-set, put-zeros}
use Rattle.modes.specs.Cmac.{padded}

-- byte i of an XOR, inside both
pub ⊕-at : (a b : List ℕ) (i : ℕ) → i < length a → i < length b → get_or (a ⊕ b) i 0 ≡ bit_xor (get_or a i 0) (get_or b i 0)
unfolding ◌⊕◌
⊕-at [] b i h l = absurd (omega arith)
⊕-at (x ∷ a) [] i h l = absurd (omega arith)
⊕-at (x ∷ a) (y ∷ b) zero h l = refl
⊕-at (x ∷ a) (y ∷ b) (suc i) h l = ⊕-at a b i (omega arith) (omega arith)

-- a short block and the bit 1, written over zeros
padded-written : (p : List ℕ) → length p < 16 → put 0 (p ++ (0x80 ∷ [])) (replicate 16 0) ≡ padded p
padded-written p h =
    let l : length (p ++ (0x80 ∷ [])) ≡ length p + 1 = length-append p (0x80 ∷ []) in
    let e : 16 - length (p ++ (0x80 ∷ [])) ≡ 15 - length p = omega arith in
    put-zeros (p ++ (0x80 ∷ [])) 16 (omega arith) ∙ append_assoc p (0x80 ∷ []) _ ∙ ap (λ (n : ℕ). p ++ (0x80 ∷ replicate n 0)) e

-- the last bytes of a text, from at, copied over zeros, and behind them the bit 1
pub padded-last : (s copied : List ℕ) (at : ℕ) → let rest = part at (length s - at) s in
    copied ≡ rest → at ≤ length s → length s < at + 16
    → set (copied ++ drop (length rest) (replicate 16 0)) (length rest) 0x80 ≡ padded (part at 16 s)
padded-last s copied at e l h =
    let rest : List ℕ = part at (length s - at) s in
    let p : List ℕ = part at 16 s in
    let zeros : List ℕ = replicate 16 0 in
    let m = length-drop at s in
    let k : length p < 16 = rw length-take (omega arith) in
    let same : rest ≡ p = take_all (length s - at) (drop at s) (omega arith) ∙ sym (take_all 16 (drop at s) (omega arith)) in
    ap (λ (z : List ℕ). set (z ++ drop (length rest) zeros) (length rest) 0x80) e
    ∙ ap (λ (z : List ℕ). set (z ++ drop (length z) zeros) (length z) 0x80) same
    ∙ ap (λ (z : List ℕ). set z (length p) 0x80) (sym (put-start p zeros))
    ∙ put-set 0 p zeros 0x80 (length p) (omega arith) (omega arith)
    ∙ padded-written p k
