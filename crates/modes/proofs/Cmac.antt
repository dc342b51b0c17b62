-- CMAC: its values are blocks, and its form with a whole block in front of the message. Assumes nothing.
use Rattle.prelude.proofs.{◌≡◌, refl, ap, ap₂, ◌∙◌, List, ◌∷◌, ◌++◌, ℕ, zero, suc, ◌+◌, ◌-◌, ◌*◌, ◌≤◌, ◌<◌, add-one, dec_lt, arith, length}
use Rattle.prelude.proofs.{replicate, length-append, length-replicate, eq-eqb, ne_eqb}
use Rattle.blocks.specs.Bytes.{Bytes, Block, MakesBlocks, ◌⊕◌, zeros, block_count, piece}
use Rattle.blocks.proofs.Xor.{⊕-block, zeros-block, bytes-append, bytes-cons, bytes-replicate}
use Rattle.modes.specs.Cmac.{padded, mac_count, subkey₁, subkey₂, last_block, chain, cmac}
use Rattle.modes.proofs.Pieces.{mac_count-behind, piece-le, piece_bytes, piece-block, piece-front, piece-behind}
use Rattle.modes.proofs.Doubled.{doubled-block}

pub padded-block : (p : List ℕ) → Bytes p → length p < 16 → Block (padded p)
padded-block p b h = record {
  size = simp (length-append, length-replicate) (omega arith);
  bytes = bytes-append p (0x80 ∷ replicate (15 - length p) 0) b
      (bytes-cons 0x80 (replicate (15 - length p) 0) (omega arith) (bytes-replicate (15 - length p)));
}

module _ (E : List ℕ → List ℕ) where
  -- ---- the last block

  pub last-whole : (p : List ℕ) → length p ≡ 16 → last_block E p ≡ subkey₁ E ⊕ p
  unfolding last_block
  last-whole p e = rw (eq-eqb (length p) 16 e)

  pub last-padded : (p : List ℕ) → length p < 16 → last_block E p ≡ subkey₂ E ⊕ padded p
  unfolding last_block
  last-padded p h = rw (ne_eqb (length p) 16 (λ e. omega arith))

  -- ---- the chain, turn by turn

  pub chain-zero : (x m : List ℕ) → chain E x m 0 ≡ x
  unfolding chain
  chain-zero x m = refl

  pub chain_more : (x m : List ℕ) (n : ℕ) → chain E x m (n + 1) ≡ E (chain E x m n ⊕ piece n m)
  unfolding chain
  chain_more x m n = rw add-one

  -- ---- a whole block in front

  module _ (c t : List ℕ) (size : length c ≡ 16) where
    pub chain-front : (x : List ℕ) (n : ℕ) → chain E x (c ++ t) (suc n) ≡ chain E (E (x ⊕ c)) t n
    unfolding chain
    chain-front x zero = ap (λ (p : List ℕ). E (x ⊕ p)) (piece-front c t size)
    chain-front x (suc n) = ap₂ (λ (y p : List ℕ). E (y ⊕ p)) (chain-front x n) (piece-behind n c t size)

    -- nothing behind it
    pub cmac-alone : length t ≡ 0 → cmac E (c ++ t) ≡ E (zeros ⊕ last_block E c)
    unfolding cmac chain
    cmac-alone e =
        let k : mac_count (c ++ t) - 1 ≡ 0 = omega (arith, mac_count-behind c t size) in
        ap (λ (n : ℕ). E (chain E zeros (c ++ t) n ⊕ last_block E (piece n (c ++ t)))) k
        ∙ ap (λ (p : List ℕ). E (zeros ⊕ last_block E p)) (piece-front c t size)

    -- k blocks and the last behind it
    pub cmac-front : (k : ℕ) → block_count (length t) ≡ k + 1
        → cmac E (c ++ t) ≡ E (chain E (E (zeros ⊕ c)) t k ⊕ last_block E (piece k t))
    unfolding cmac
    cmac-front k e =
        let l : mac_count (c ++ t) - 1 ≡ suc k = omega (arith, mac_count-behind c t size) in
        ap (λ (n : ℕ). E (chain E zeros (c ++ t) n ⊕ last_block E (piece n (c ++ t)))) l
        ∙ ap₂ (λ (x p : List ℕ). E (x ⊕ last_block E p)) (chain-front zeros k) (piece-behind k c t size)

  -- ---- blocks

  pub subkey₁-block : Block (subkey₁ E)
  unfolding subkey₁
  subkey₁-block = doubled-block (E zeros)

  pub subkey₂-block : Block (subkey₂ E)
  unfolding subkey₂
  subkey₂-block = doubled-block (subkey₁ E)

  pub last_block_lem : (p : List ℕ) → Bytes p → length p ≤ 16 → Block (last_block E p)
  last_block_lem p b h = elim (dec_lt (length p) 16) [
    | yes l ↦ rw (last-padded p l) (⊕-block subkey₂-block (padded-block p b l))
    | no l ↦
        let e : length p ≡ 16 = omega arith in
        rw (last-whole p e) (⊕-block subkey₁-block (record { size = e; bytes = b }))
  ]

  module _ (keeps : MakesBlocks E) where
    pub chain-block : (x m : List ℕ) → Block x → Bytes m → (n : ℕ) → 16 * n ≤ length m → Block (chain E x m n)
    unfolding chain
    chain-block x m w b zero h = w
    chain-block x m w b (suc n) h =
        keeps (chain E x m n ⊕ piece n m)
        (⊕-block (chain-block x m w b n (omega arith)) (piece-block n m b (omega arith)))

    pub cmac-block : (m : List ℕ) → Bytes m → Block (cmac E m)
    unfolding cmac
    cmac-block m b =
        let k : ℕ = mac_count m - 1 in
        keeps (chain E zeros m k ⊕ last_block E (piece k m))
        (⊕-block (chain-block zeros m zeros-block b k (omega arith)) (last_block_lem (piece k m) (piece_bytes k m b) (piece-le k m)))
