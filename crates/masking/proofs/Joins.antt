-- Shares join: masks go away, and the joined shares of a call are the plain cipher's blocks, stage by stage. Assumes nothing.
use Rattle.prelude.proofs.{◌≡◌, sym, ap, ◌∙◌, List, ℕ, zero, suc, ◌+◌, ◌*◌, arith}
use Rattle.blocks.specs.{Bytes.Block, Bytes.zeros, Bytes.◌⊕◌, Bits.rearranged}
use Rattle.blocks.proofs.Xor.{⊕-assoc, ⊕-comm, ⊕-left-comm, ⊕-self, ⊕-zero, ⊕-block, zeros-block}
use Rattle.blocks.proofs.ByBits.{rearranged-block, rearranged-⊕}
use Rattle.masking.specs.Shares.{i₀, i₁, i₂, next, Shares, Blocks, join, add, each, spread, only, Reader, pair_size, masks_at}
use Rattle.masking.specs.Stages.{Stages, masks_size, state, call, masked, shown_shares, PlainStages, plain_after}
use Rattle.masking.proofs.Shape.{Reads, join-block, StageBlocks, state-blocks, masked-blocks}

-- ---- shares

pub join-add : (s m : Shares) → join (add s m) ≡ join s ⊕ join m
unfolding join
join-add s m = simp (⊕-assoc, ⊕-comm, ⊕-left-comm)

pub join-spread : {u v : List ℕ} → Block u → Block v → join (spread u v) ≡ zeros
unfolding join
join-spread {u} {v} p q = sym (⊕-assoc u v (u ⊕ v)) ∙ ⊕-self (⊕-block p q)

pub join-only : {b : List ℕ} → Block b → join (only b) ≡ b
unfolding join
join-only {b} p = ap (λ (l : List ℕ). b ⊕ l) (⊕-zero zeros-block) ∙ ⊕-zero p

pub join-zeros : join (λ i. zeros) ≡ zeros
unfolding join
join-zeros = join-only zeros-block

-- it does not matter which share comes first
pub join-turn : (s : Shares) → join (λ i. s (next i)) ≡ join s
unfolding join
join-turn s = sym (⊕-assoc (s i₁) (s i₂) (s i₀)) ∙ ⊕-comm (s i₁ ⊕ s i₂) (s i₀)

-- masks go away
pub join-masked : {s : Shares} {u v : List ℕ} → Blocks s → Block u → Block v → join (add s (spread u v)) ≡ join s
join-masked {s} {u} {v} b p q = join-add s (spread u v) ∙ ap (λ (l : List ℕ). join s ⊕ l) (join-spread p q) ∙ ⊕-zero (join-block b)

pub join-masks_at : {s : Shares} (M : Reader) (o : ℕ) → Blocks s → Reads M (o + pair_size) → join (add s (masks_at M o)) ≡ join s
join-masks_at M o b h = join-masked b (h _ (omega arith)) (h _ (omega arith))

-- ---- maps of blocks that XOR goes through

pub record Linear (f : List ℕ → List ℕ) : Type 0 where
  pub f-block : (a : List ℕ) → Block a → Block (f a)
  pub f-⊕ : (a b : List ℕ) → Block a → Block b → f (a ⊕ b) ≡ f a ⊕ f b

pub join-map : {f : List ℕ → List ℕ} → Linear f → (s : Shares) → Blocks s → join (each f s) ≡ f (join s)
unfolding join
join-map {f} h s p =
    sym (h.f-⊕ (s i₀) (s i₁ ⊕ s i₂) (p i₀) (⊕-block (p i₁) (p i₂))
    ∙ ap (λ (l : List ℕ). f (s i₀) ⊕ l) (h.f-⊕ (s i₁) (s i₂) (p i₁) (p i₂)))

pub rearranged-linear : (p : ℕ → ℕ) → Linear (rearranged p)
rearranged-linear p = record { f-block = λ a h. rearranged-block p a; f-⊕ = rearranged-⊕ p }

-- ---- a call whose stages join to the plain cipher's steps P

pub record StageJoins (D : Stages) (P : PlainStages) : Type 0 where
  pub start-join : (key input : Shares) → Blocks key → Blocks input → join (D.start key input) ≡ P.start (join key) (join input)
  pub stage-join : (n : ℕ) (key s : Shares) → Blocks key → Blocks s → join (D.stage n key s) ≡ P.stage n (join key) (join s)
  pub shown-linear : (n : ℕ) → Linear (D.shown_key n)

module _ {D : Stages} {P : PlainStages} (W : StageBlocks D) (J : StageJoins D P)
    {key input : Shares} (M : Reader) (o : ℕ) (p : Blocks key) (q : Blocks input) where
  unmasked : (n : ℕ) → Reads M (o + pair_size * n + pair_size) → join (masked D key input M o n) ≡ join (state D key input M o n)
  unfolding masked
  unmasked n h = join-masks_at M (o + pair_size * n) (state-blocks W M o p q n (λ a k. h a (omega arith))) h

  -- before pair n + 1
  pub state-join : (n : ℕ) → Reads M (o + pair_size * n) → join (state D key input M o n) ≡ plain_after P (join key) (join input) n
  unfolding state plain_after masked
  state-join zero h = J.start-join key input p q
  state-join (suc n) h =
      let low : Reads M (o + pair_size * n + pair_size) = λ a k. h a (omega arith) in
      J.stage-join n key (masked D key input M o n) p (masked-blocks W M o p q n low)
      ∙ ap (P.stage n (join key)) (unmasked n low ∙ state-join n (λ a k. h a (omega arith)))

  -- and just after it
  pub masked-join : (n : ℕ) → Reads M (o + pair_size * n + pair_size)
      → join (masked D key input M o n) ≡ plain_after P (join key) (join input) n
  masked-join n h = unmasked n h ∙ state-join n (λ a k. h a (omega arith))

  pub call-join : Reads M (o + masks_size D) → join (call D key input M o) ≡ plain_after P (join key) (join input) D.count
  call-join h = masked-join D.count (λ a k. h a (omega arith))

  pub shown-join : (n : ℕ) → join (shown_shares D key input M o n) ≡ D.shown_key n (join key)
  unfolding shown_shares
  shown-join n = join-map (J.shown-linear n) key p
