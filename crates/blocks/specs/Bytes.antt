-- Lists of bytes, their XOR, blocks of sixteen bytes; parts of a list; numbers as bytes. Assumes nothing.
use Rattle.std.specs.Prelude.{◌≡◌, Bool, true, false, ◌&&◌, List, [], ◌∷◌, ◌++◌, ℕ, zero, suc, ◌+◌, ◌*◌, ◌/◌, ◌%◌, ◌^◌, ◌<◌, eqb, length, get_or, take, drop, replicate}
use Rattle.std.specs.Int.Bits.{bit_xor}

-- each number of l is a byte
abbrev pub Bytes : List ℕ → Type 0
Bytes l = (i : ℕ) → get_or l i 0 < 256

pub record Block (b : List ℕ) : Type 0 where
  pub size : length b ≡ 16
  pub bytes : Bytes b

-- E makes blocks of blocks
abbrev pub MakesBlocks : (List ℕ → List ℕ) → Type 0
MakesBlocks E = (b : List ℕ) → Block b → Block (E b)

infixr 66 ◌⊕◌
-- XOR byte by byte, as long as the shorter
unfoldable pub ◌⊕◌ : List ℕ → List ℕ → List ℕ
[] ⊕ b = []
(x ∷ a) ⊕ [] = []
(x ∷ a) ⊕ (y ∷ b) = bit_xor x y ∷ (a ⊕ b)

-- the block of zeros
unfoldable pub zeros : List ℕ
zeros = replicate 16 0

-- whether two lists are the same
abbrev pub same_bytes : List ℕ → List ℕ → Bool
same_bytes [] [] = true
same_bytes [] (y ∷ b) = false
same_bytes (x ∷ a) [] = false
same_bytes (x ∷ a) (y ∷ b) = eqb x y && same_bytes a b

-- ---- parts

-- the n elements of s from index at
abbrev pub part : ℕ → ℕ → List ℕ → List ℕ
part at n s = take n (drop at s)

-- o with xs written over it from index at
unfoldable pub put : ℕ → List ℕ → List ℕ → List ℕ
put at xs o = take at o ++ (xs ++ drop (at + length xs) o)

-- f 0, f 1, .. f (n - 1)
unfoldable pub tab : ℕ → (ℕ → ℕ) → List ℕ
tab zero f = []
tab (suc n) f = tab n f ++ (f n ∷ [])

-- how many blocks m bytes make; the last may be shorter
abbrev pub block_count : ℕ → ℕ
block_count m = (m + 15) / 16

-- block j of the message m, from 0
abbrev pub piece : ℕ → List ℕ → List ℕ
piece j m = part (16 * j) 16 m

-- ---- numbers, the highest byte first

-- the lowest w bytes of x
unfoldable pub big_endian : ℕ → ℕ → List ℕ
big_endian zero x = []
big_endian (suc w) x = x / 256 ^ w % 256 ∷ big_endian w x

-- the number that bytes say
unfoldable pub value : List ℕ → ℕ
value [] = 0
value (x ∷ s) = x * 256 ^ length s + value s
