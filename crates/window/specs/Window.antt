-- The anti-replay window of RFC 4303, section 3.4.3, over 64 numbers: which numbers it admits, and how it moves. Assumes nothing.
use Rattle.std.specs.Prelude.{◌≡◌, ◌⊎◌, Bool, false, cond, ◌&&◌, ◌||◌, ℕ, ◌+◌, ◌-◌, ◌*◌, ◌%◌, ◌^◌, ◌≤◌, ◌<◌, eqb, leb, ltb}
use Rattle.std.specs.Int.Bits.{bit_or}
use Rattle.bits.specs.Bit.{bit}
use Rattle.window.specs.declared.Window.{Window}

-- how many numbers it covers: the highest accepted, its right edge, and those below it, down to its left edge
abbrev pub span : ℕ
span = 64

-- nothing accepted
abbrev pub empty : Window
empty = record { highest = 0; accepted = 0 }

module _ (w : Window) (s : ℕ) where
  -- s is in the window
  abbrev pub Inside : Type 0
  Inside = (s ≤ w.highest) × (w.highest < s + span)

  -- its bit is set: bit k of the word is for the number k below the highest
  abbrev pub known : Bool
  known = bit w.accepted (w.highest - s)

  -- s is new: to the right of the window, or in it and not known
  abbrev pub New : Type 0
  New = (w.highest < s) ⊎ (Inside × (known ≡ false))

  -- s is admitted; numbers begin with 1
  abbrev pub Admitted : Type 0
  Admitted = (1 ≤ s) × New

  -- the two causes to refuse it: 0 or to the left of the window; in it, and known
  abbrev pub below : Bool
  below = eqb s 0 || leb (s + span) w.highest

  abbrev pub repeated : Bool
  repeated = leb s w.highest && known

-- a word shifted up by d places; 64 places or more clear it
unfoldable pub shifted : ℕ → ℕ → ℕ
shifted word d = word * 2 ^ d % 2 ^ span

-- the window moved up so that s is its right edge, and the window with the bit of s set
abbrev pub moved_up : Window → ℕ → Window
moved_up w s = record { highest = s; accepted = bit_or (shifted w.accepted (s - w.highest)) 1 }

abbrev pub marked : Window → ℕ → Window
marked w s = record { highest = w.highest; accepted = bit_or w.accepted (shifted 1 (w.highest - s)) }

-- the window with s accepted, which is to its right or in it
abbrev pub after : Window → ℕ → Window
after w s = cond (ltb w.highest s) (moved_up w s) (marked w s)
