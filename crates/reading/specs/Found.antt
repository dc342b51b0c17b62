-- What the reader holds of words, none of which is bad: what the first of each kind says. Assumes nothing.
use Rattle.std.specs.Prelude.{◌≡◌, true, false, cond, List, [], ℕ, eqb, Option, Some, None}
use Rattle.body.specs.Words.{field, word_of, minutes, any_bad}
use Rattle.body.specs.declared.ReadRefusal.{ReadRefusal}
use Rattle.body.specs.declared.ReadRefusal.TheVariants.{BadWord}
use Rattle.reading.specs.declared.Found.{Found}

-- what the first word of kind k says, by g
abbrev pub first_of : {A : Type 0} → (ℕ → A) → ℕ → List ℕ → Option A
first_of g k ws = cond (eqb (word_of k ws) 0) None (Some (g (word_of k ws)))

pub record Holds (f : Found) (ws : List ℕ) : Type 0 where
  pub good : any_bad [] ws ≡ false
  pub high : f.high ≡ first_of field 1 ws
  pub low : f.low ≡ first_of field 2 ws
  pub fraction : f.fraction ≡ first_of field 3 ws
  pub offset : f.offset ≡ first_of (λ w. minutes (field w)) 4 ws

-- the refusal of words of which one is bad
pub record IsBad (why : ReadRefusal) (ws : List ℕ) : Type 0 where
  pub told : why ≡ BadWord
  pub bad : any_bad [] ws ≡ true
