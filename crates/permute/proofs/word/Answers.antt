-- `word` meets its contract: one test of where its bits come from. Assumes nothing.
use Rattle.prelude.proofs.{◌≡◌, ap, ◌∙◌, List, [], ◌∷◌, ℕ, ◌+◌, ◌-◌, ◌*◌, ◌/◌, ◌%◌, ◌^◌, arith, get_or, w8, Fits, rules}
use Rattle.bits.specs.Bit.{bit}
use Rattle.bits.proofs.{Test.four, XorOfBits.moved, OfBytes.of_bytes}
use Rattle.permute.proofs.word.Goals as goal

pub returns : goal.returns
returns c =
    let s : List ℕ = c.args.s in
    let i = c.args.i in
    let n = c.args.n in
    let at : ℕ → ℕ = λ k. get_or s k 0 in
    let f : (k : ℕ) → Fits w8 (at k) = λ k. search rules in
    let f₀ = f i in
    let f₁ = f (i + n) in
    let f₂ = f (i + 2 * n) in
    let f₃ = f (i + 3 * n) in
    let bytes : List ℕ = at i ∷ at (i + n) ∷ at (i + 2 * n) ∷ at (i + 3 * n) ∷ [] in
    let x : ℕ = c.from_be_bytes.result in
    let w = of_bytes bytes x (λ k. 3 - k) (search rules)
    (λ k h. four (λ k. x / 2 ^ (8 * k) % 2 ^ 8 ≡ get_or bytes (3 - k) 0) (omega arith) (omega arith) (omega arith) (omega arith) k h) in
    λ b h.
    moved w (λ b. 3 - b / 8) (λ b. b % 8) tt b h
    ∙ ap (λ (x : ℕ). bit x (b % 8))
    (four (λ k. get_or bytes k 0 ≡ at (i + k * n)) (ap at (omega arith)) (ap at (omega arith)) (ap at (omega arith)) (ap at (omega arith))
    (3 - b / 8) (omega arith))
