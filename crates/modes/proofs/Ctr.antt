-- Counter mode: how long, which bytes, block by block, and that it undoes itself. Assumes nothing.
use Rattle.prelude.proofs.{◌≡◌, refl, sym, ap, ◌∙◌, List, [], ◌∷◌, ◌++◌, ℕ, zero, suc, ◌+◌, ◌*◌, ◌≤◌, ◌<◌, min, add-one, arith, bit_xor}
use Rattle.prelude.proofs.{length, take, length-append}
use Rattle.blocks.specs.Bytes.{Bytes, Block, ◌⊕◌, block_count, piece}
use Rattle.blocks.proofs.Xor.{⊕-comm, ⊕-length, ⊕-bytes, ⊕-cancel-le}
use Rattle.modes.specs.Ctr.{ctr_piece, ctr_to, ctr}
use Rattle.modes.proofs.Pieces.{piece-length, piece-le, piece_bytes, joined, joined_same, joined_bytes, piece-joined, message-joined}

⊕-take : (a b : List ℕ) → a ⊕ take (length a) b ≡ a ⊕ b
unfolding ◌⊕◌
⊕-take [] b = refl
⊕-take (x ∷ a) [] = refl
⊕-take (x ∷ a) (y ∷ b) = ap (λ (l : List ℕ). bit_xor x y ∷ l) (⊕-take a b)

module _ (E : List ℕ → List ℕ) (T : ℕ → List ℕ) where
  -- XOR is as long as the shorter: a block, whole or short, with the whole output block
  pub ctr_piece-⊕ : (m : List ℕ) (j : ℕ) → ctr_piece E T m j ≡ piece j m ⊕ E (T j)
  ctr_piece-⊕ m j = ⊕-take (piece j m) (E (T j))

  -- ---- turn by turn

  pub ctr_to-zero : (m : List ℕ) → ctr_to E T m 0 ≡ []
  unfolding ctr_to
  ctr_to-zero m = refl

  pub ctr_to-more : (m : List ℕ) (n : ℕ) → ctr_to E T m (n + 1) ≡ ctr_to E T m n ++ ctr_piece E T m n
  unfolding ctr_to
  ctr_to-more m n = rw add-one

  pub ctr_to-all : (m : List ℕ) (n : ℕ) → n ≡ block_count (length m) → ctr_to E T m n ≡ ctr E T m
  unfolding ctr
  ctr_to-all m n e = ap (ctr_to E T m) e

  ctr_to-joined : (m : List ℕ) (n : ℕ) → ctr_to E T m n ≡ joined (ctr_piece E T m) n
  unfolding ctr_to joined
  ctr_to-joined m zero = refl
  ctr_to-joined m (suc n) = ap (λ (z : List ℕ). z ++ ctr_piece E T m n) (ctr_to-joined m n)

  ctr-joined : (m : List ℕ) → ctr E T m ≡ joined (ctr_piece E T m) (block_count (length m))
  unfolding ctr
  ctr-joined m = ctr_to-joined m (block_count (length m))

  ctr_piece-size : (m : List ℕ) (j : ℕ) → length (ctr_piece E T m j) ≡ min (length (piece j m)) (length (E (T j)))
  ctr_piece-size m j = ap length (ctr_piece-⊕ m j) ∙ ⊕-length (piece j m) (E (T j))

  -- ---- where each output block is a whole block

  module _ (m : List ℕ) (sized : (j : ℕ) → j < block_count (length m) → length (E (T j)) ≡ 16) where
    ctr_piece-length : (j : ℕ) → j < block_count (length m) → length (ctr_piece E T m j) ≡ length (piece j m)
    ctr_piece-length j h = ctr_piece-size m j ∙ omega (arith, sized j h, piece-le j m)

    pub ctr_to-length : (n : ℕ) → n ≤ block_count (length m) → length (ctr_to E T m n) ≡ min (16 * n) (length m)
    unfolding ctr_to
    ctr_to-length zero h = omega arith
    ctr_to-length (suc n) h =
        length-append (ctr_to E T m n) (ctr_piece E T m n)
        ∙ omega (arith, ctr_to-length n (omega arith), ctr_piece-length n (omega arith), piece-length n m)

    pub ctr-length : length (ctr E T m) ≡ length m
    unfolding ctr
    ctr-length = omega (arith, ctr_to-length (block_count (length m)) (omega arith))

  module _ (outputs : (j : ℕ) → Block (E (T j))) where
    pub ctr_piece-bytes : (m : List ℕ) → Bytes m → (j : ℕ) → Bytes (ctr_piece E T m j)
    ctr_piece-bytes m b j = rw (ctr_piece-⊕ m j) (⊕-bytes (piece j m) (E (T j)) (piece_bytes j m b) (outputs j).bytes)

    pub ctr-bytes : (m : List ℕ) → Bytes m → Bytes (ctr E T m)
    ctr-bytes m b = rw ctr-joined (joined_bytes (ctr_piece E T m) (block_count (length m)) (ctr_piece-bytes m b))

    pub piece-ctr : (m : List ℕ) (j : ℕ) → j < block_count (length m) → piece j (ctr E T m) ≡ ctr_piece E T m j
    piece-ctr m j h =
        ap (piece j) (ctr-joined m)
        ∙ piece-joined (ctr_piece E T m) (block_count (length m))
        (λ i. omega (arith, ctr_piece-size m i, piece-le i m))
        (λ i l. omega (arith, ctr_piece-length m (λ k _. (outputs k).size) i (omega arith), piece-length i m)) j h

    -- a block twice is the message's
    again : (m : List ℕ) (j : ℕ) → j < block_count (length m) → ctr_piece E T (ctr E T m) j ≡ piece j m
    again m j h =
        let o = outputs j in
        ctr_piece-⊕ (ctr E T m) j
        ∙ ap (λ (p : List ℕ). p ⊕ E (T j)) (piece-ctr m j h ∙ ctr_piece-⊕ m j ∙ ⊕-comm (piece j m) (E (T j)))
        ∙ ⊕-comm (E (T j) ⊕ piece j m) (E (T j))
        ∙ ⊕-cancel-le (E (T j)) (piece j m) (omega (arith, piece-le j m))

    pub ctr-ctr : (m : List ℕ) → ctr E T (ctr E T m) ≡ m
    ctr-ctr m =
        ctr-joined (ctr E T m)
        ∙ ap (λ (n : ℕ). joined (ctr_piece E T (ctr E T m)) (block_count n)) (ctr-length m (λ k _. (outputs k).size))
        ∙ joined_same (ctr_piece E T (ctr E T m)) (λ j. piece j m) (block_count (length m)) (again m)
        ∙ message-joined m

-- the same output blocks, the same result
pub ctr-same : (E F : List ℕ → List ℕ) (S T : ℕ → List ℕ) (m : List ℕ)
    → ((j : ℕ) → j < block_count (length m) → E (S j) ≡ F (T j)) → ctr E S m ≡ ctr F T m
ctr-same E F S T m e =
    ctr-joined E S m
    ∙ joined_same (ctr_piece E S m) (ctr_piece F T m) (block_count (length m))
    (λ j h. ap (λ (k : List ℕ). piece j m ⊕ take (length (piece j m)) k) (e j h))
    ∙ sym (ctr-joined F T m)
