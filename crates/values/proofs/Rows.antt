-- Rows hold where one test over all of them does, which antt computes. Assumes nothing.
use Rattle.prelude.proofs.{◌≡◌, Bool, true, ◌&&◌, List, [], ◌∷◌}
use Rattle.blocks.specs.Bytes.{same_bytes}
use Rattle.blocks.proofs.Same.{both_true, same_true}
use Rattle.values.specs.Row.{Row, ◌is◌, Hold}

unfoldable pub same : List Row → Bool
same [] = true
same ((a is b) ∷ rs) = same_bytes a b && same rs

pub hold : (rs : List Row) → same rs ≡ true → Hold rs
unfolding same
hold [] e = tt
hold ((a is b) ∷ rs) e = let both = both_true (same_bytes a b) (same rs) e in (same_true a b both.0, hold rs both.1)
