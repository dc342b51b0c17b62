-- Three XOR shares of a block, numbered 0, 1, 2, counted modulo 3; the tape of their masks, and what is read of it. Assumes nothing.
use Rattle.std.specs.Prelude.{Bool, true, false, List, ◌++◌, ℕ, zero, suc, ◌+◌}
use Rattle.blocks.specs.Bytes.{◌⊕◌, Block, zeros, part}

pub data Index : Type 0 where
  i₀ i₁ i₂ : Index

abbrev pub next : Index → Index
next i₀ = i₁
next i₁ = i₂
next i₂ = i₀

abbrev pub is_first : Index → Bool
is_first i₀ = true
is_first i₁ = false
is_first i₂ = false

-- the index numbered 0, 1 or 2
abbrev pub index_of : ℕ → Index
index_of zero = i₀
index_of (suc zero) = i₁
index_of (suc (suc n)) = i₂

abbrev pub Shares : Type 0
Shares = Index → List ℕ

abbrev pub Blocks : Shares → Type 0
Blocks s = (i : Index) → Block (s i)

abbrev pub three : List ℕ → List ℕ → List ℕ → Shares
three a b c i₀ = a
three a b c i₁ = b
three a b c i₂ = c

-- the block that three shares are shares of
unfoldable pub join : Shares → List ℕ
join s = s i₀ ⊕ (s i₁ ⊕ s i₂)

-- share by share
abbrev pub add : Shares → Shares → Shares
add s m i = s i ⊕ m i

abbrev pub each : (List ℕ → List ℕ) → Shares → Shares
each f s i = f (s i)

-- masks: u, v and u XOR v
abbrev pub spread : List ℕ → List ℕ → Shares
spread u v = three u v (u ⊕ v)

-- a block in share 0, zeros in the others
abbrev pub only : List ℕ → Shares
only b = three b zeros zeros

-- three shares that stand one behind the other
abbrev pub shares_in : List ℕ → Shares
shares_in b = three (part 0 16 b) (part 16 16 b) (part 32 16 b)

abbrev pub flat : Shares → List ℕ
flat s = s i₀ ++ (s i₁ ++ s i₂)

-- ---- the tape

-- the sixteen bytes that stand at each place
abbrev pub Reader : Type 0
Reader = ℕ → List ℕ

unfoldable pub at : List ℕ → Reader
at t p = part p 16 t

-- the bytes of a pair of masks: u, v of a stage, or c, d of a key
abbrev pub pair_size : ℕ
pair_size = 32

-- the pair that stands at o, as masks of three shares
abbrev pub masks_at : Reader → ℕ → Shares
masks_at M o = spread (M o) (M (o + 16))
