-- Shares in packed form: the shared S-box by words, and steps share by share. Assumes nothing.
use Rattle.prelude.proofs.{◌≡◌, refl, sym, ap, ◌∙◌, Bool, true, false, cond, List, [], ◌∷◌, ℕ, ◌+◌, ◌*◌, ◌<◌, arith, bit_xor, bit_and, get_or}
use Rattle.bits.specs.Bit.{bit}
use Rattle.bits.proofs.{Laws.bit-zero, Laws.bit-xor, Laws.bit-and, Test.four}
use Rattle.blocks.specs.{Bytes.◌⊕◌, Bytes.zeros, Bits.bit_at, Bits.block_of, Bits.cells}
use Rattle.blocks.proofs.{Xor.⊕-zero, ByBits.cells_same, ByBits.rearranged-block}
use Rattle.baksheesh.specs.Baksheesh.{from, perm_bits, constant}
use Rattle.words.specs.Words.{unpacked}
use Rattle.words.proofs.Words.{bit-unpacked, words, ones}
use Rattle.masking.specs.Shares.{i₀, i₁, i₂, Shares, three}
use Rattle.masking.specs.{Sbox.sbox_form, Sbox.share_bit, Sbox.form_share, Call.lane_round, Call.share_round}
use Rattle.masking.proofs.Shape.{shares-same}

pub ones-if : (one : Bool) (i : ℕ) → i < 32 → bit (cond one 0xffff_ffff 0) i ≡ one
ones-if true i h = ones i h
ones-if false i h = bit-zero i

packed-share : (first : Bool) (a b : List ℕ)
    → form_share sbox_form first (unpacked a) (unpacked b)
    ≡ cells (λ c j. share_bit sbox_form first j (λ e. bit (get_or a e 0) c) (λ e. bit (get_or b e 0) c))
unfolding form_share
packed-share first a b =
    cells_same _ _ λ c j h l.
    let x : (s : List ℕ) (e : ℕ) → e < 4 → bit_at (unpacked s) (4 * c + e) ≡ bit (get_or s e 0) c = λ s e k. bit-unpacked s c e h k in
    let a₀ = x a 0 (omega arith) in
    let a₁ = x a 1 (omega arith) in
    let a₂ = x a 2 (omega arith) in
    let a₃ = x a 3 (omega arith) in
    let b₀ = x b 0 (omega arith) in
    let b₁ = x b 1 (omega arith) in
    let b₂ = x b 2 (omega arith) in
    four
    (λ j. share_bit sbox_form first j (λ e. bit_at (unpacked a) (4 * c + e)) (λ e. bit_at (unpacked b) (4 * c + e))
    ≡ share_bit sbox_form first j (λ e. bit (get_or a e 0) c) (λ e. bit (get_or b e 0) c))
    (simp (a₀, a₁, a₂, a₃, b₀, b₂)) (simp (a₀, a₁, a₂, a₃, b₁, b₂)) (simp (a₀, a₁, a₂, a₃, b₀, b₁, b₂))
    (simp (a₀, a₁, a₂, a₃, b₀, b₁, b₂)) j l

-- by words: each product as three, and for 1 a word of it
abbrev product : List ℕ → List ℕ → ℕ → ℕ → ℕ
product a b e f = bit_xor (bit_xor (bit_and (get_or a e 0) (get_or a f 0)) (bit_and (get_or a e 0) (get_or b f 0))) (bit_and (get_or b e 0) (get_or a f 0))

pub share-words : (first : Bool) (one : ℕ) → ((i : ℕ) → i < 32 → bit one i ≡ first) → (a b : List ℕ)
    → unpacked (
    bit_xor (bit_xor (bit_xor (bit_xor (product a b 0 2) (get_or a 0 0)) (get_or a 1 0)) (get_or a 3 0)) one
    ∷ bit_xor (bit_xor (bit_xor (get_or a 0 0) (product a b 1 2)) (get_or a 3 0)) one
    ∷ bit_xor (bit_xor (bit_xor (product a b 0 2) (product a b 1 2)) (get_or a 1 0)) (get_or a 3 0)
    ∷ bit_xor (bit_xor (bit_xor (product a b 0 1) (product a b 0 2)) (get_or a 2 0)) (get_or a 3 0)
    ∷ []
    ) ≡ form_share sbox_form first (unpacked a) (unpacked b)
share-words first one e a b =
    words _ _ _ _ _
    (λ i h. simp (bit-xor, bit-and, e i h)) (λ i h. simp (bit-xor, bit-and, e i h)) (λ i h. simp (bit-xor, bit-and))
    (λ i h. simp (bit-xor, bit-and))
    ∙ sym (packed-share first a b)

-- a round of a lane by its steps, for the first share and for another
module _ (n : ℕ) (f : Bool) (a b k s r : List ℕ) (moved : s ≡ perm_bits (form_share sbox_form f a b)) where
  pub round-first : f ≡ true → r ≡ (s ⊕ constant n) ⊕ k → r ≡ lane_round n f a b k
  unfolding lane_round
  round-first t e = e ∙ λ i. (moved i ⊕ cond (sym t i) (constant n) zeros) ⊕ k

  pub round-other : f ≡ false → r ≡ s ⊕ k → r ≡ lane_round n f a b k
  unfolding lane_round
  round-other t e =
      e ∙ ap (λ (z : List ℕ). z ⊕ k) (moved ∙ sym (⊕-zero (rearranged-block from (form_share sbox_form f a b))))
      ∙ ap (λ (z : Bool). (perm_bits (form_share sbox_form f a b) ⊕ cond z (constant n) zeros) ⊕ k) (sym t)

-- a round lane by lane
pub round-lanes : (n : ℕ) (s k : Shares) {a b c : List ℕ} → a ≡ lane_round n true (s i₁) (s i₂) (k i₀)
    → b ≡ lane_round n false (s i₂) (s i₀) (k i₁) → c ≡ lane_round n false (s i₀) (s i₁) (k i₂) → three a b c ≡ share_round n s k
unfolding lane_round
round-lanes n s k = shares-same

-- words of zeros
pub zero-words : unpacked (0 ∷ 0 ∷ 0 ∷ 0 ∷ []) ≡ zeros
unfolding unpacked cells block_of bit zeros
zero-words = refl
