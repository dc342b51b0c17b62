-- CMAC, NIST SP 800-38B section 6, over any block function E on 128-bit blocks. Assumes nothing.
use Rattle.std.specs.Prelude.{false, cond, List, [], ◌∷◌, ◌++◌, ℕ, zero, suc, ◌-◌, max, eqb, length, replicate}
use Rattle.blocks.specs.Bytes.{◌⊕◌, zeros, block_count, piece}
use Rattle.blocks.specs.Bits.{bit_at, block_of}

-- ---- the subkeys (6.1)

-- a block shifted left by one bit
abbrev pub shifted : List ℕ → List ℕ
shifted b = block_of (λ i. cond (eqb i 0) false (bit_at b (i - 1)))

-- R for blocks of 128 bits
abbrev pub R : List ℕ
R = replicate 15 0 ++ (0x87 ∷ [])

-- shifted, and R added where the most significant bit was set
unfoldable pub doubled : List ℕ → List ℕ
doubled b = cond (bit_at b 127) (shifted b ⊕ R) (shifted b)

-- a short block, padded by a bit 1 and bits 0
abbrev pub padded : List ℕ → List ℕ
padded p = p ++ (0x80 ∷ replicate (15 - length p) 0)

-- how many blocks are authenticated: one for the empty message
abbrev pub mac_count : List ℕ → ℕ
mac_count m = max 1 (block_count (length m))

module _ (E : List ℕ → List ℕ) where
  unfoldable pub subkey₁ : List ℕ
  subkey₁ = doubled (E zeros)

  unfoldable pub subkey₂ : List ℕ
  subkey₂ = doubled subkey₁

  -- ---- the code (6.2)

  -- the last block: complete, with the first subkey; or padded, with the second
  unfoldable pub last_block : List ℕ → List ℕ
  last_block p = cond (eqb (length p) 16) (subkey₁ ⊕ p) (subkey₂ ⊕ padded p)

  -- the chain from a start, over the first n blocks
  unfoldable pub chain : List ℕ → List ℕ → ℕ → List ℕ
  chain start m zero = start
  chain start m (suc n) = E (chain start m n ⊕ piece n m)

  unfoldable pub cmac : List ℕ → List ℕ
  cmac m = E (chain zeros m (mac_count m - 1) ⊕ last_block (piece (mac_count m - 1) m))
