-- What is printed for a key and a block. Assumes nothing.
use Rattle.prelude.proofs.{◌≡◌, sym, ap, ◌∙◌, Bool, cond, take, drop, List, [], ◌∷◌, ◌++◌, ℕ, arith, length, take_all, length-drop, eq-eqb, set}
use Rattle.std.proofs.lemmas.List.{set-append_right}
use Rattle.blocks.specs.Bytes.{part}
use Rattle.baksheesh.specs.Baksheesh.{encrypt}
use Rattle.hex_digits.specs.Hex.{hex_of}
use Rattle.block.specs.Printed.{printed}

-- a line feed stored behind the digits t
line-feed : (t r : List ℕ) → length t ≡ 32 → length r ≡ 1 → set (t ++ r) 32 10 ≡ t ++ (10 ∷ [])
line-feed t [] l m = absurd (omega arith)
line-feed t (x ∷ []) l m = set-append_right t (x ∷ []) 32 32 10 l (omega arith)
line-feed t (x ∷ y ∷ r) l m = absurd (omega arith)

pub for_block : (s t r : List ℕ) → length s ≡ 32 → t ≡ hex_of (encrypt (part 0 16 s) (part 16 16 s)) → length t ≡ 32 → length r ≡ 1
    → set (t ++ r) 32 10 ≡ printed s
unfolding printed
for_block s t r full e l m =
    let block : part 16 16 s ≡ drop 16 s = take_all 16 (drop 16 s) (omega (arith, length-drop 16 s)) in
    line-feed t r l m ∙ ap (λ (t : List ℕ). t ++ (10 ∷ [])) (e ∙ ap (λ (b : List ℕ). hex_of (encrypt (take 16 s) b)) block
    ∙ ap (λ (b : Bool). cond b (hex_of (encrypt (take 16 s) (drop 16 s))) (108 ∷ 101 ∷ 110 ∷ 103 ∷ 116 ∷ 104 ∷ [])) (sym (eq-eqb (length s) 32 full)))
