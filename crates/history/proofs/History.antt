-- What each operation keeps holds after every list of them. Assumes nothing.
use Rattle.prelude.proofs.{List, [], ◌∷◌}
use Rattle.history.specs.History.{state_after}

module _ {X Q : Type 0} (next : X → Q → X) (Good : X → Type 0) (keeps : (x : X) (q : Q) → Good x → Good (next x q)) (x : X) where
  pub kept-after : Good x → (qs : List Q) → Good (state_after next x qs)
  kept-after g [] = g
  kept-after g (q ∷ qs) = keeps (state_after next x qs) q (kept-after g qs)
