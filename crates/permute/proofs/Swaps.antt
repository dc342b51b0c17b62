-- A row of delta swaps, one after the other, as one move of bits. Assumes nothing.
use Rattle.prelude.proofs.{◌≡◌, refl, ap, ◌∙◌, List, [], ◌∷◌, ℕ, ◌+◌, ◌<◌, add-one, length, get_or, drop, drop-cons}
use Rattle.bits.specs.Swap.{swapmove}
use Rattle.bits.proofs.XorOfBits.{Made, Places, swapped, swapped-places}

-- what swaps by masks and distances make of x
abbrev pub swaps : List (ℕ × ℕ) → ℕ → ℕ
swaps [] x = x
swaps (s ∷ l) x = swaps l (swapmove 32 x s.0 s.1)

-- and where the bits of the result come from
abbrev pub swaps-places : List (ℕ × ℕ) → Places → Places
swaps-places [] f = f
swaps-places (s ∷ l) f = swaps-places l (swapped-places 32 s.0 s.1 f)

pub all-swapped : {ws : List ℕ} (l : List (ℕ × ℕ)) {x : ℕ} {f : Places} → Made 32 ws x f → Made 32 ws (swaps l x) (swaps-places l f)
all-swapped [] a = a
all-swapped (s ∷ l) a = all-swapped l (swapped s.0 s.1 a refl)

-- one swap more of a row
pub swap-more : (l : List (ℕ × ℕ)) (i y : ℕ) {z : ℕ} → i < length l
    → z ≡ swapmove 32 y (get_or l i (0, 0)).0 (get_or l i (0, 0)).1 → swaps (drop (i + 1) l) z ≡ swaps (drop i l) y
swap-more l i y h e = ap (swaps (drop (i + 1) l)) e ∙ rw (add-one, drop-cons l i (0, 0)) refl

-- the swaps of the bit move
abbrev pub row : List (ℕ × ℕ)
row = (0x0014_0014, 8) ∷ (0x0282_0282, 4) ∷ (0x0008_0008, 12) ∷ (0x0000_ff00, 8) ∷ (0x00f0_00f0, 4) ∷ []
