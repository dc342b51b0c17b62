-- Either width: its form is one that a record can have, its numbers have a place in a counter block; when a link counts as keyed.
-- Assumes nothing.
use Rattle.prelude.proofs.{◌≡◌, refl, sym, subst, ◌↔◌, Bool, true, false, false≢true, ℕ, zero, suc, ◌^◌, ◌≤◌, ◌<◌, arith, le-leb, leb-true}
use Rattle.links.specs.Record.{Proper, sequence_most, greatest, usable, told, form_of}
use Rattle.links.specs.declared.Form.{Form}
use Rattle.links.specs.declared.Width.{Width}
use Rattle.links.specs.declared.Width.TheVariants.{Narrow, Wide}

pub proper : (w : Width) → Proper (form_of w)
proper Narrow = record { sequence = omega arith; tag = omega arith }
proper Wide = record { sequence = omega arith; tag = omega arith }

-- the form that a width was asked for
pub proper_of : {f : Form} (w : Width) → f ≡ form_of w → Proper f
proper_of w e = subst Proper (sym e) (proper w)

pub told-wide : (n : ℕ) → (n ≡ 0 → ⊥) → Wide ≡ told n
told-wide zero h = absurd (h refl)
told-wide (suc n) h = refl

-- numbers of either width have a place in a counter block, and in a link
pub greatest-most : (w : Width) → greatest (form_of w) < 256 ^ sequence_most
greatest-most Narrow = omega arith
greatest-most Wide = omega arith

-- a link counts as keyed exactly where it is keyed and its number is one of its form
pub usable-exactly : (f : Form) (k : Bool) (s : ℕ) → usable f k s ≡ true ↔ ((k ≡ true) × (s ≤ greatest f))
usable-exactly f true s = ((λ e. (refl, leb-true s (greatest f) e)), (λ h. le-leb s (greatest f) h.1))
usable-exactly f false s = ((λ e. absurd (false≢true e)), λ h. absurd (false≢true h.0))

-- a link that was just keyed counts as keyed
pub keyed-usable : (w : Width) → usable (form_of w) true 0 ≡ true
keyed-usable w = le-leb 0 (greatest (form_of w)) (omega arith)
