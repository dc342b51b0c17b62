-- A row of a table of worked values: what the definitions give, and what it has to be. Assumes nothing.
use Rattle.std.specs.Prelude.{◌≡◌, List, [], ◌∷◌, ℕ}

infix 20 ◌is◌
pub data Row : Type 0 where
  ◌is◌ : List ℕ → List ℕ → Row

-- each row's two sides are equal
abbrev pub Hold : List Row → Type 0
Hold [] = Unit {0}
Hold ((a is b) ∷ rs) = (a ≡ b) × Hold rs
