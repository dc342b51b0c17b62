-- Over every list of openings after one keying, the link's window tells of the numbers accepted, none of them twice, and admits exactly
-- those that may be accepted next; on any link, a number that was accepted is refused from then on. Assumes nothing.
use Rattle.prelude.proofs.{◌≡◌, refl, sym, ap, ◌↔◌, List, ℕ}
use Rattle.answers.specs.Answer.{Accepts}
use Rattle.answers.proofs.First.{not-accepts, if-done, if-refused}
use Rattle.links.specs.declared.Form.{Form}
use Rattle.history.specs.History.{state_after, accepted_by}
use Rattle.window.specs.Window.{Admitted}
use Rattle.window.specs.History.{Eligible, Tells, Moves}
use Rattle.window.proofs.History as History
use Rattle.opening.specs.Opener.{Opener, keyed_opener, accepting}
use Rattle.opening.specs.History.{Request, number_offered, answer_to, link_left}
use Rattle.opening.proofs.Openable.{accepted-openable, accepted-done}

module _ (f : Form) (C : List ℕ → List ℕ → List ℕ) where
  -- any link
  abbrev Any : Opener → Type 0
  Any x = Unit {0}

  -- opening moves the window of its link as the rule says
  pub moves : (x : Opener) (q : Request) → Any x
      → Moves (link_left f C) (answer_to f C) (number_offered f) (λ (y : Opener). y.window) Any x q
  moves x q g = record {
    good = tt;
    admitted = λ a. (accepted-openable f C x q.sealed q.room a).admitted;
    moved = λ a. ap (λ (y : Opener). y.window) (sym (if-done (accepted-done f C x q.sealed q.room a) (accepting x s) x));
    kept = λ a. ap (λ (y : Opener). y.window) (sym (if-refused (not-accepts (answer_to f C x q) a) (accepting x s) x));
  }
    where
      s : ℕ
      s = number_offered f x q

  pub window-tells : (n : ℕ) (keys : List ℕ) (qs : List Request) → let x = keyed_opener n keys in
      Tells (state_after (link_left f C) x qs).window (accepted_by (link_left f C) x (answer_to f C) (number_offered f) qs)
  window-tells n keys = History.window-tells _ _ _ _ _ moves (keyed_opener n keys) tt refl

  pub admits-exactly : (n : ℕ) (keys : List ℕ) (qs : List Request) (s : ℕ) → let x = keyed_opener n keys in
      Admitted (state_after (link_left f C) x qs).window s
      ↔ Eligible (accepted_by (link_left f C) x (answer_to f C) (number_offered f) qs) s
  admits-exactly n keys qs = History.admits-exactly _ _ (window-tells n keys qs)

  -- the link x and the window that it has are any
  pub refused-again : (x : Opener) (q : Request) → Accepts (answer_to f C x q) → (qs : List Request) (p : Request)
      → let y = state_after (link_left f C) (link_left f C x q) qs in
      number_offered f y p ≡ number_offered f x q → Accepts (answer_to f C y p) → ⊥
  refused-again x = History.never-again _ _ _ _ _ moves x tt
