-- Two's complement. Assumes nothing.
use Rattle.std.specs.Prelude.{cond, ℕ, suc, ◌-◌, ◌/◌, ◌%◌, ltb, ℤ, pos, negsuc, ◌-ℤ◌}

-- what is left of z modulo n: for n = 2^w, its w bits in two's complement
abbrev pub residue : ℕ → ℤ → ℕ
residue n (pos k) = k % n
residue n (negsuc k) = n - suc (k % n)

-- the number of w bits whose residue modulo n = 2^w is x: x itself or, where the top bit is set, x - n
abbrev pub signed : ℕ → ℕ → ℤ
signed n x = cond (ltb x (n / 2)) (pos x) (pos x -ℤ pos n)
