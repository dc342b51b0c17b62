-- What the program prints. Assumes nothing.
use Rattle.std.specs.Prelude.{cond, List, [], ◌∷◌, ◌++◌, ℕ, eqb, length, take, drop}
use Rattle.baksheesh.specs.Baksheesh.{encrypt}
use Rattle.hex_digits.specs.Hex.{hex_of}

-- for key and block the ciphertext's digits, else `length`; then a line feed
unfoldable pub printed : List ℕ → List ℕ
printed s =
    cond (eqb (length s) 32) (hex_of (encrypt (take 16 s) (drop 16 s))) (108 ∷ 101 ∷ 110 ∷ 103 ∷ 116 ∷ 104 ∷ []) ++ (10 ∷ [])
