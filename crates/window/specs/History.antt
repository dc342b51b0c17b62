-- What a window tells of the numbers accepted: on any links, over any list of openings. Assumes nothing.
use Rattle.std.specs.Prelude.{◌≡◌, false, List, [], ◌∷◌, ℕ, ◌+◌, ◌-◌, ◌≤◌, ◌<◌, max}
use Rattle.bits.specs.Bit.{bit}
use Rattle.answers.specs.Answer.{Answer, Accepts}
use Rattle.history.specs.History.{among, Distinct}
use Rattle.window.specs.Window.{span, Admitted, after}
use Rattle.window.specs.declared.Window.{Window}

-- ---- numbers

-- the highest; 0 if there is none
abbrev pub highest_of : List ℕ → ℕ
highest_of [] = 0
highest_of (s ∷ ss) = max s (highest_of ss)

-- s may be accepted after ss: it is not 0, not 64 or more below the highest of them, and none of them
abbrev pub Eligible : List ℕ → ℕ → Type 0
Eligible ss s = (1 ≤ s) × (highest_of ss < s + 64) × (among s ss ≡ false)

-- ---- the window w tells of the accepted numbers ss

pub record Tells (w : Window) (ss : List ℕ) : Type 0 where
  -- none was accepted twice, and 0 never
  pub distinct : Distinct ss
  pub from_one : among 0 ss ≡ false
  pub highest : w.highest ≡ highest_of ss
  -- bit k is set exactly where the number k below the highest was accepted; past the number 1 the difference is 0
  pub word : (k : ℕ) → k < span → bit w.accepted k ≡ among (w.highest - k) ss

-- ---- what an opening does with the window of its link: it accepts admitted numbers alone, and moves the window for these alone

module _ {X Q : Type 0} (next : X → Q → X) (answer : X → Q → Answer) (number : X → Q → ℕ) (window : X → Window)
    (Good : X → Type 0) where
  -- on a link that is as it has to be, and leaves it so
  pub record Moves (x : X) (q : Q) : Type 0 where
    pub good : Good (next x q)
    pub admitted : Accepts (answer x q) → Admitted (window x) (number x q)
    pub moved : Accepts (answer x q) → window (next x q) ≡ after (window x) (number x q)
    pub kept : (Accepts (answer x q) → ⊥) → window (next x q) ≡ window x
