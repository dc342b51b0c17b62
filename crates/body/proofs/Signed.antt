-- Two's complement: bits and number say each other; an offset in its range is small. Assumes nothing.
use Rattle.prelude.proofs.{◌≡◌, true, ℕ, ◌/◌, ◌≤◌, ◌<◌, mod-eq_of_lt, arith, ℤ, mag}
use Rattle.std.proofs.lemmas.Int.{ints}
use Rattle.body.specs.Signed.{residue, signed}
use Rattle.body.specs.Words.{offset_in_range}

pub residue-lt : (n : ℕ) (z : ℤ) → 0 < n → residue n z < n
residue-lt n z h = grind arith

pub signed-residue : (n : ℕ) (z : ℤ) → mag z < n / 2 → signed n (residue n z) ≡ z
signed-residue n z h = grind (arith, ints, mod-eq_of_lt)

pub residue-signed : (n x : ℕ) → x < n → residue n (signed n x) ≡ x
residue-signed n x h = grind (arith, ints)

pub offset-small : (z : ℤ) → offset_in_range z ≡ true → mag z ≤ 840
offset-small z e = grind (arith, ints)
