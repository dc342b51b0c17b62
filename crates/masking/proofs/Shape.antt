-- Every share of a call is a block. Assumes nothing.
use Rattle.prelude.proofs.{◌≡◌, fun_ext, List, ℕ, zero, suc, ◌+◌, ◌*◌, ◌≤◌, arith}
use Rattle.blocks.specs.Bytes.{Block}
use Rattle.blocks.proofs.Xor.{⊕-block, zeros-block}
use Rattle.masking.specs.Shares.{Index, i₀, i₁, i₂, Shares, Blocks, three, join, add, spread, only, Reader, pair_size, masks_at}
use Rattle.masking.specs.Stages.{Stages, masks_size, state, call, masked, shown_shares}

-- a tape gives blocks below o
abbrev pub Reads : Reader → ℕ → Type 0
Reads M o = (p : ℕ) → p + 16 ≤ o → Block (M p)

-- ---- shares

-- two triples of shares are the same if each share is
pub shares-same : {s t : Shares} → s i₀ ≡ t i₀ → s i₁ ≡ t i₁ → s i₂ ≡ t i₂ → s ≡ t
shares-same {s} {t} p q r = fun_ext go
  where
    go : (i : Index) → s i ≡ t i
    go i₀ = p
    go i₁ = q
    go i₂ = r

pub three-blocks : {a b c : List ℕ} → Block a → Block b → Block c → Blocks (three a b c)
three-blocks p q r i₀ = p
three-blocks p q r i₁ = q
three-blocks p q r i₂ = r

pub add-blocks : {s m : Shares} → Blocks s → Blocks m → Blocks (add s m)
add-blocks p q i = ⊕-block (p i) (q i)

pub spread-blocks : {u v : List ℕ} → Block u → Block v → Blocks (spread u v)
spread-blocks p q = three-blocks p q (⊕-block p q)

pub only-blocks : {b : List ℕ} → Block b → Blocks (only b)
only-blocks p = three-blocks p zeros-block zeros-block

pub join-block : {s : Shares} → Blocks s → Block (join s)
unfolding join
join-block p = ⊕-block (p i₀) (⊕-block (p i₁) (p i₂))

pub masks_at-blocks : (M : Reader) (o : ℕ) → Reads M (o + pair_size) → Blocks (masks_at M o)
masks_at-blocks M o h = spread-blocks (h _ (omega arith)) (h _ (omega arith))

-- ---- a call whose stages make blocks of blocks

pub record StageBlocks (D : Stages) : Type 0 where
  pub start-blocks : {key input : Shares} → Blocks key → Blocks input → Blocks (D.start key input)
  pub stage-blocks : (n : ℕ) {key s : Shares} → Blocks key → Blocks s → Blocks (D.stage n key s)
  pub shown-block : (n : ℕ) {k : List ℕ} → Block k → Block (D.shown_key n k)

module _ {D : Stages} (W : StageBlocks D) {key input : Shares} (M : Reader) (o : ℕ) (p : Blocks key) (q : Blocks input) where
  pub state-blocks : (n : ℕ) → Reads M (o + pair_size * n) → Blocks (state D key input M o n)
  unfolding state
  state-blocks zero h = W.start-blocks p q
  state-blocks (suc n) h =
      W.stage-blocks n p
      (add-blocks (state-blocks n (λ a k. h a (omega arith))) (masks_at-blocks M (o + pair_size * n) (λ a k. h a (omega arith))))

  pub masked-blocks : (n : ℕ) → Reads M (o + pair_size * n + pair_size) → Blocks (masked D key input M o n)
  unfolding masked
  masked-blocks n h = add-blocks (state-blocks n (λ a k. h a (omega arith))) (masks_at-blocks M (o + pair_size * n) h)

  pub call-blocks : Reads M (o + masks_size D) → Blocks (call D key input M o)
  call-blocks h = masked-blocks D.count (λ a k. h a (omega arith))

  pub shown-blocks : (n : ℕ) → Blocks (shown_shares D key input M o n)
  unfolding shown_shares
  shown-blocks n i = W.shown-block n (p i)
