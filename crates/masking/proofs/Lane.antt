-- A lane's 48 bytes: its parts, and what they join to; the numbers of the shares in it. Assumes nothing.
use Rattle.prelude.proofs.{◌≡◌, refl, sym, ap, ◌∙◌, fun_ext, Bool, List, ◌++◌, append_assoc, ℕ, zero, suc, ◌+◌, ◌*◌, ◌%◌, ◌<◌, arith}
use Rattle.prelude.proofs.{length, take, length-append, take_at, drop_at, take_all}
use Rattle.blocks.specs.Bytes.{Block, ◌⊕◌, part}
use Rattle.masking.specs.Shares.{Index, i₀, i₁, i₂, next, is_first, index_of, Shares, Blocks, three, join, shares_in, flat, Reader}
use Rattle.masking.specs.Shares.{pair_size, masks_at}
use Rattle.masking.specs.Stages.{Stages, state, masked, shown_shares, lane, PlainStages, plain_after}
use Rattle.masking.proofs.Shape.{Reads, shares-same, StageBlocks, masked-blocks, shown-blocks}
use Rattle.masking.proofs.Joins.{StageJoins, join-turn, masked-join, shown-join}

-- ---- indices by their numbers

-- the index numbered i + 1 is the next one, and that numbered i + 2 the one after it
pub index-next : (i : ℕ) → i < 3 → index_of ((i + 1) % 3) ≡ next (index_of i)
index-next zero l = refl
index-next (suc zero) l = refl
index-next (suc (suc zero)) l = refl
index-next (suc (suc (suc i))) l = absurd (omega arith)

pub index-after : (i : ℕ) → i < 3 → index_of ((i + 2) % 3) ≡ next (next (index_of i))
index-after i l =
    let e : (i + 2) % 3 ≡ ((i + 1) % 3 + 1) % 3 = omega arith in
    ap index_of e ∙ index-next ((i + 1) % 3) (omega arith) ∙ ap next (index-next i l)

-- ---- three blocks one behind the other

-- they are read back
pub three_back : (a b c : List ℕ) → length a ≡ 16 → length b ≡ 16 → length c ≡ 16 → shares_in (a ++ (b ++ c)) ≡ three a b c
three_back a b c p q r =
    shares-same (take_at a (b ++ c) 16 p) (ap (take 16) (drop_at a (b ++ c) 16 p) ∙ take_at b c 16 q)
    (rw (sym (append_assoc a b c))
    (ap (take 16) (drop_at (a ++ b) c 32 (simp length-append (omega arith))) ∙ take_all 16 c (omega arith)))

module _ {a b c : List ℕ} (p : Block a) (q : Block b) (r : Block c) where
  read : shares_in (a ++ (b ++ c)) ≡ three a b c
  read = three_back a b c p.size q.size r.size

  pub first_part : part 0 16 (a ++ (b ++ c)) ≡ a
  first_part = λ i. read i i₀

  pub second-part : part 16 16 (a ++ (b ++ c)) ≡ b
  second-part = λ i. read i i₁

  pub third-part : part 32 16 (a ++ (b ++ c)) ≡ c
  third-part = λ i. read i i₂

  pub parts-length : length (a ++ (b ++ c)) ≡ 48
  parts-length = simp length-append (omega (arith, p.size, q.size, r.size))

-- three shares, one behind the other, are read back
pub shares-flat : (s : Shares) → Blocks s → shares_in (flat s) ≡ s
shares-flat s b = shares-same (first_part (b _) (b _) (b _)) (second-part (b _) (b _) (b _)) (third-part (b _) (b _) (b _))

-- share i stands at 16 i
pub part-flat : (s : Shares) → Blocks s → (i : ℕ) → i < 3 → part (16 * i) 16 (flat s) ≡ s (index_of i)
part-flat s p zero l = first_part (p _) (p _) (p _)
part-flat s p (suc zero) l = second-part (p _) (p _) (p _)
part-flat s p (suc (suc zero)) l = third-part (p _) (p _) (p _)
part-flat s p (suc (suc (suc i))) l = absurd (omega arith)

-- ---- the lanes of pair n + 1 of a call

module _ {D : Stages} (W : StageBlocks D) {key input : Shares} (M : Reader) (o n : ℕ) (p : Blocks key) (q : Blocks input)
    (h : Reads M (o + pair_size * n + pair_size)) where
  m-blocks : Blocks (masked D key input M o n)
  m-blocks = masked-blocks W M o p q n h

  k-blocks : Blocks (shown_shares D key input M o n)
  k-blocks = shown-blocks W M o p q n

  pub lane-length : (i : Index) → length (lane D key input M o n i) ≡ 48
  unfolding lane
  lane-length i = parts-length (m-blocks _) (m-blocks _) (k-blocks _)

  pub lane-next : (i : Index) → part 0 16 (lane D key input M o n i) ≡ masked D key input M o n (next i)
  unfolding lane
  lane-next i = first_part (m-blocks _) (m-blocks _) (k-blocks _)

  pub lane-after : (i : Index) → part 16 16 (lane D key input M o n i) ≡ masked D key input M o n (next (next i))
  unfolding lane
  lane-after i = second-part (m-blocks _) (m-blocks _) (k-blocks _)

  pub lane-key : (i : Index) → part 32 16 (lane D key input M o n i) ≡ shown_shares D key input M o n i
  unfolding lane
  lane-key i = third-part (m-blocks _) (m-blocks _) (k-blocks _)

  -- a state share stands in two lanes with the same bytes
  pub lane-twice : (i : Index) → part 16 16 (lane D key input M o n i) ≡ part 0 16 (lane D key input M o n (next i))
  lane-twice i = lane-after i ∙ sym (lane-next (next i))

  module _ {P : PlainStages} (J : StageJoins D P) where
    -- the three state shares XOR to the state after n stages, the three key shares to the key that the pair shows
    pub states-join : join (λ i. part 0 16 (lane D key input M o n i)) ≡ plain_after P (join key) (join input) n
    states-join = ap join (fun_ext lane-next) ∙ join-turn (masked D key input M o n) ∙ masked-join W J M o p q n h

    pub keys-join : join (λ i. part 32 16 (lane D key input M o n i)) ≡ D.shown_key n (join key)
    keys-join = ap join (fun_ext lane-key) ∙ shown-join W J M o p q n

-- ---- a stage needs of a share no more than its lane

-- stage n + 1 makes of a share, the first one or another, what `on_lane n` makes of its lane
pub record StageLanes (D : Stages) (on_lane : ℕ → Bool → List ℕ → List ℕ) : Type 0 where
  pub stage-lane : (n : ℕ) → n < D.count → {key s : Shares} → Blocks key → Blocks s → (i : Index)
      → D.stage n key s i ≡ on_lane n (is_first i) (s (next i) ++ (s (next (next i)) ++ D.shown_key n (key i)))

module _ {D : Stages} (W : StageBlocks D) {on_lane : ℕ → Bool → List ℕ → List ℕ} (L : StageLanes D on_lane) {key input : Shares}
    (M : Reader) (o n : ℕ) (l : n < D.count) (p : Blocks key) (q : Blocks input) where
  -- with the next pair's mask it is what that pair's lanes show
  pub masked-lane : Reads M (o + pair_size * n + pair_size) → (i : Index) → masked D key input M o (suc n) i
      ≡ on_lane n (is_first i) (lane D key input M o n i) ⊕ masks_at M (o + pair_size * suc n) i
  unfolding state masked lane shown_shares
  masked-lane h i =
      ap (λ (s : List ℕ). s ⊕ masks_at M (o + pair_size * suc n) i) (L.stage-lane n l p (masked-blocks W M o p q n h) i)

  pub lane-follows : Reads M (o + pair_size * suc n + pair_size) → (i : Index) → part 0 16 (lane D key input M o (suc n) i)
      ≡ on_lane n (is_first (next i)) (lane D key input M o n (next i)) ⊕ masks_at M (o + pair_size * suc n) (next i)
  lane-follows h i = lane-next W M o (suc n) p q h i ∙ masked-lane (λ a k. h a (omega arith)) (next i)
