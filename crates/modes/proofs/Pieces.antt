-- The blocks of a message: how many, how long, and that they join to the message; lists joined, and their blocks.
-- Assumes nothing.
use Rattle.prelude.proofs.{◌≡◌, refl, sym, ap, ap₂, ◌∙◌, List, [], ◌++◌, ℕ, zero, suc, ◌+◌, ◌-◌, ◌*◌, ◌≤◌, ◌<◌, min, max, dec_lt, arith}
use Rattle.prelude.proofs.{length, take, drop, length-append, length-take, length-drop, take_all, take_at, drop_at, take-append-le}
use Rattle.prelude.proofs.{drop-append-le, drop-append-add, take-add}
use Rattle.blocks.specs.Bytes.{Bytes, Block, block_count, piece}
use Rattle.blocks.proofs.Xor.{bytes-nil, bytes_take, bytes_drop, bytes-append}
use Rattle.modes.specs.Cmac.{mac_count}

-- ---- how many

pub count-behind : (c t : List ℕ) → length c ≡ 16 → block_count (length (c ++ t)) ≡ suc (block_count (length t))
count-behind c t e = ap block_count (length-append c t) ∙ omega arith

pub mac_count-behind : (c t : List ℕ) → length c ≡ 16 → mac_count (c ++ t) ≡ suc (block_count (length t))
mac_count-behind c t e = ap (max 1) (count-behind c t e) ∙ omega arith

-- ---- how long

pub piece-length : (j : ℕ) (m : List ℕ) → length (piece j m) ≡ min 16 (length m - 16 * j)
piece-length j m = simp (length-take, length-drop)

pub piece-le : (j : ℕ) (m : List ℕ) → length (piece j m) ≤ 16
piece-le j m = omega (arith, piece-length j m)

pub piece-whole : (j : ℕ) (m : List ℕ) → 16 * j + 16 ≤ length m → length (piece j m) ≡ 16
piece-whole j m h = omega (arith, piece-length j m)

-- the n elements that stand in it, read where it stands
pub piece-cut : (j n : ℕ) (m : List ℕ) → n ≡ min 16 (length m - 16 * j) → take (16 * j + n - 16 * j) (drop (16 * j) m) ≡ piece j m
piece-cut j n m e =
    let k : 16 * j + n - 16 * j ≡ n = omega arith in
    let l = length-drop (16 * j) m in
    ap (λ (i : ℕ). take i (drop (16 * j) m)) k
    ∙ elim (dec_lt n 16) [
      | yes h ↦ take_all n (drop (16 * j) m) (omega arith) ∙ sym (take_all 16 (drop (16 * j) m) (omega arith))
      | no h ↦ let s : n ≡ 16 = omega arith in ap (λ (i : ℕ). take i (drop (16 * j) m)) s
    ]

pub piece_bytes : (j : ℕ) (m : List ℕ) → Bytes m → Bytes (piece j m)
piece_bytes j m h = bytes_take 16 (drop (16 * j) m) (bytes_drop (16 * j) m h)

pub piece-block : (j : ℕ) (m : List ℕ) → Bytes m → 16 * j + 16 ≤ length m → Block (piece j m)
piece-block j m b h = record { size = piece-whole j m h; bytes = piece_bytes j m b }

-- ---- a block in front

pub piece-front : (c t : List ℕ) → length c ≡ 16 → piece 0 (c ++ t) ≡ c
piece-front c t e = take_at c t 16 e

pub piece-behind : (j : ℕ) (c t : List ℕ) → length c ≡ 16 → piece (suc j) (c ++ t) ≡ piece j t
piece-behind j c t e =
    let d : 16 * suc j ≡ length c + 16 * j = omega arith in
    ap (λ (n : ℕ). take 16 (drop n (c ++ t))) d ∙ ap (take 16) (drop-append-add c t (16 * j))

-- ---- f 0, f 1, .. f (n - 1) one behind the other

unfoldable pub joined : (ℕ → List ℕ) → ℕ → List ℕ
joined f zero = []
joined f (suc n) = joined f n ++ f n

pub joined_same : (f g : ℕ → List ℕ) (n : ℕ) → ((j : ℕ) → j < n → f j ≡ g j) → joined f n ≡ joined g n
unfolding joined
joined_same f g zero e = refl
joined_same f g (suc n) e = ap₂ ◌++◌ (joined_same f g n (λ j h. e j (omega arith))) (e n (omega arith))

pub joined_bytes : (f : ℕ → List ℕ) (n : ℕ) → ((j : ℕ) → Bytes (f j)) → Bytes (joined f n)
unfolding joined
joined_bytes f zero h = bytes-nil
joined_bytes f (suc n) h = bytes-append (joined f n) (f n) (joined_bytes f n h) (h n)

pub joined_length : (f : ℕ → List ℕ) (n : ℕ) → ((j : ℕ) → j < n → length (f j) ≡ 16) → length (joined f n) ≡ 16 * n
unfolding joined
joined_length f zero h = refl
joined_length f (suc n) h =
    length-append (joined f n) (f n) ∙ omega (arith, joined_length f n (λ j l. h j (omega arith)), h n (omega arith))

-- where all but the last are whole blocks, they are the blocks of what they join to
pub piece-joined : (f : ℕ → List ℕ) (n : ℕ) → ((j : ℕ) → length (f j) ≤ 16) → ((j : ℕ) → j + 1 < n → length (f j) ≡ 16)
    → (j : ℕ) → j < n → piece j (joined f n) ≡ f j
unfolding joined
piece-joined f zero s w j h = absurd (omega arith)
piece-joined f (suc n) s w j h =
    let l : length (joined f n) ≡ 16 * n = joined_length f n (λ i b. w i (omega arith)) in
    elim (dec_lt j n) [
      | yes b ↦
          let k : 16 ≤ length (drop (16 * j) (joined f n)) = rw length-drop (omega arith) in
          ap (take 16) (drop-append-le (16 * j) (joined f n) (f n) (omega arith))
          ∙ take-append-le 16 (drop (16 * j) (joined f n)) (f n) k
          ∙ piece-joined f n s (λ i d. w i (omega arith)) j b
      | no b ↦
          let e : n ≡ j = omega arith in
          ap (take 16) (drop_at (joined f n) (f n) (16 * j) (omega arith)) ∙ take_all 16 (f n) (s n) ∙ ap f e
    ]

-- the blocks of a message join to it

pub take_more : (n : ℕ) (m : List ℕ) → take (16 * suc n) m ≡ take (16 * n) m ++ piece n m
take_more n m = let e : 16 * suc n ≡ 16 * n + 16 = omega arith in rw e (take-add (16 * n) 16 m)

pub pieces-joined : (m : List ℕ) (n : ℕ) → joined (λ j. piece j m) n ≡ take (16 * n) m
unfolding joined
pieces-joined m zero = refl
pieces-joined m (suc n) = ap (λ (z : List ℕ). z ++ piece n m) (pieces-joined m n) ∙ sym (take_more n m)

pub message-joined : (m : List ℕ) → joined (λ j. piece j m) (block_count (length m)) ≡ m
message-joined m = pieces-joined m (block_count (length m)) ∙ take_all (16 * block_count (length m)) m (omega arith)
