-- A byte as two cells. Assumes nothing.
use Rattle.std.specs.Prelude.{Bool, ℕ, ◌+◌, ◌*◌, ◌/◌, ◌%◌}
use Rattle.baksheesh.specs.Baksheesh.{cell_of}

-- the byte whose two cells are what f makes of the two cells of b
unfoldable pub two_cells : (ℕ → Bool → Bool → Bool → Bool → Bool) → ℕ → ℕ
two_cells f b = 16 * cell_of f (b / 16) + cell_of f (b % 16)
