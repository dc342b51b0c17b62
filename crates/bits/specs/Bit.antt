-- The bits of a number, and the number of given bits. Assumes nothing.
use Rattle.std.specs.Prelude.{Bool, true, false, not, ℕ, zero, suc, ◌+◌, ◌*◌, ◌/◌, ◌%◌, ◌^◌, eqb}

infixl 33 ◌⊻◌
-- one or the other, not both
abbrev pub ◌⊻◌ : Bool → Bool → Bool
true ⊻ b = not b
false ⊻ b = b

abbrev pub digit : Bool → ℕ
digit true = 1
digit false = 0

abbrev pub odd : ℕ → Bool
odd n = eqb (n % 2) 1

-- bit i of x
unfoldable pub bit : ℕ → ℕ → Bool
bit x i = odd (x / 2 ^ i)

-- the number of n bits whose bit i is f i
abbrev pub number : ℕ → (ℕ → Bool) → ℕ
number zero f = 0
number (suc n) f = number n (λ i. f (suc i)) * 2 + digit (f 0)
