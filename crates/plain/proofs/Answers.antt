-- What plain sealing answers and what it asks, where no cause applies. Assumes nothing.
use Rattle.prelude.proofs.{◌≡◌, List, [], ◌∷◌, ℕ, ◌≤◌, arith, eqb, length, eqb-true, eqb-false, ltb-false, not-false}
use Rattle.answers.specs.Answer.{done, NoneOf}
use Rattle.answers.proofs.First.{done_none}
use Rattle.links.specs.{Record.longest, Record.record_size, Record.greatest, declared.Form.Form}
use Rattle.plain.specs.Entry.{plain_keys, plain_causes, plain_answer}

-- what plain sealing asks
pub record PlainSealable (f : Form) (keys : List ℕ) (s : ℕ) (m : List ℕ) (o : ℕ) : Type 0 where
  pub keyed : length keys ≡ plain_keys
  pub low : 1 ≤ s
  pub high : s ≤ greatest f
  pub small : length m ≤ longest
  pub room : record_size f (length m) ≤ o

module _ (f : Form) (keys : List ℕ) (s : ℕ) (m : List ℕ) (o : ℕ) where
  pub plain_done : NoneOf (plain_causes f keys s m o) → plain_answer f keys s m o ≡ done (record_size f (length m) ∷ [])
  unfolding plain_answer
  plain_done = done_none (plain_causes f keys s m o) _

  pub plain-sealable : NoneOf (plain_causes f keys s m o) → PlainSealable f keys s m o
  plain-sealable (keyed, (low, (high, (small, (room, _))))) =
      let z = eqb-false s 0 low in
      record {
        keyed = eqb-true (length keys) plain_keys (not-false (eqb (length keys) plain_keys) keyed);
        low = omega arith;
        high = ltb-false (greatest f) s high;
        small = ltb-false longest (length m) small;
        room = ltb-false o (record_size f (length m)) room;
      }
