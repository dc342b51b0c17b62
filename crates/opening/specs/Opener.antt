-- What opening knows of a receiving link. Assumes nothing.
use Rattle.std.specs.Prelude.{Bool, true, List, ℕ}
use Rattle.blocks.specs.Bytes.{part}
use Rattle.window.specs.Window.{empty, after}
use Rattle.window.specs.declared.Window.{Window}

-- whether it is keyed, its number, the window of the numbers accepted, and the keys KE and KM; the form of its records is beside it
pub record Opener : Type 0 where
  pub keyed : Bool
  pub number : ℕ
  pub window : Window
  pub ke : List ℕ
  pub km : List ℕ

-- the bytes of key material: KE, then KM
abbrev pub receiver_keys : ℕ
receiver_keys = 32

-- the link number n, keyed with the given bytes
abbrev pub keyed_opener : ℕ → List ℕ → Opener
keyed_opener n keys = record { keyed = true; number = n; window = empty; ke = part 0 16 keys; km = part 16 16 keys }

-- the link with the sequence number s accepted
abbrev pub accepting : Opener → ℕ → Opener
accepting x s = record { keyed = x.keyed; number = x.number; window = after x.window s; ke = x.ke; km = x.km }
