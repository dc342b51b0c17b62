-- XOR of byte lists: its laws, those of a group on blocks; and which lists are bytes. Assumes nothing.
use Rattle.prelude.proofs.{◌≡◌, refl, sym, ap, ap₂, ◌∙◌, List, [], ◌∷◌, ◌++◌, ℕ, zero, suc, ◌+◌, ◌≤◌, ◌<◌, min, arith, bit_xor, xor_zero_r}
use Rattle.prelude.proofs.{xor_comm, xor_self, xor_lt, length, take, drop, get_or, set, replicate, get_or-drop}
use Rattle.bits.proofs.Laws.{xor_assoc}
use Rattle.blocks.specs.Bytes.{Bytes, Block, ◌⊕◌, zeros}

pub ⊕-comm : (a b : List ℕ) → a ⊕ b ≡ b ⊕ a
unfolding ◌⊕◌
⊕-comm [] [] = refl
⊕-comm [] (y ∷ ys) = refl
⊕-comm (x ∷ xs) [] = refl
⊕-comm (x ∷ xs) (y ∷ ys) = ap₂ ◌∷◌ (xor_comm x y) (⊕-comm xs ys)

pub ⊕-assoc : (a b c : List ℕ) → (a ⊕ b) ⊕ c ≡ a ⊕ (b ⊕ c)
unfolding ◌⊕◌
⊕-assoc [] b c = refl
⊕-assoc (x ∷ xs) [] c = refl
⊕-assoc (x ∷ xs) (y ∷ ys) [] = refl
⊕-assoc (x ∷ xs) (y ∷ ys) (z ∷ zs) = ap₂ ◌∷◌ (xor_assoc x y z) (⊕-assoc xs ys zs)

pub ⊕-left-comm : (a b c : List ℕ) → a ⊕ (b ⊕ c) ≡ b ⊕ (a ⊕ c)
⊕-left-comm a b c = sym (⊕-assoc a b c) ∙ ap (λ (x : List ℕ). x ⊕ c) (⊕-comm a b) ∙ ⊕-assoc b a c

pub ⊕-length : (a b : List ℕ) → length (a ⊕ b) ≡ min (length a) (length b)
unfolding ◌⊕◌
⊕-length [] b = omega arith
⊕-length (x ∷ xs) [] = omega arith
⊕-length (x ∷ xs) (y ∷ ys) = omega (arith, ⊕-length xs ys)

-- a twice goes away, where it is not the shorter
pub ⊕-cancel-le : (a b : List ℕ) → length b ≤ length a → a ⊕ (a ⊕ b) ≡ b
unfolding ◌⊕◌
⊕-cancel-le [] [] h = refl
⊕-cancel-le [] (y ∷ ys) h = absurd (omega arith)
⊕-cancel-le (x ∷ xs) [] h = refl
⊕-cancel-le (x ∷ xs) (y ∷ ys) h =
    ap₂ ◌∷◌ (sym (xor_assoc x x y) ∙ ap (λ (z : ℕ). bit_xor z y) (xor_self x)) (⊕-cancel-le xs ys (omega arith))

pub get_or-⊕ : (a b : List ℕ) (i : ℕ) → length a ≡ length b → get_or (a ⊕ b) i 0 ≡ bit_xor (get_or a i 0) (get_or b i 0)
unfolding ◌⊕◌
get_or-⊕ [] [] i e = refl
get_or-⊕ [] (y ∷ b) i e = absurd (omega arith)
get_or-⊕ (x ∷ a) [] i e = absurd (omega arith)
get_or-⊕ (x ∷ a) (y ∷ b) zero e = refl
get_or-⊕ (x ∷ a) (y ∷ b) (suc i) e = get_or-⊕ a b i (omega arith)

pub ⊕-bytes : (a b : List ℕ) → Bytes a → Bytes b → Bytes (a ⊕ b)
unfolding ◌⊕◌
⊕-bytes [] b p q i = omega arith
⊕-bytes (x ∷ xs) [] p q i = omega arith
⊕-bytes (x ∷ xs) (y ∷ ys) p q zero = xor_lt 8 x y (p 0) (q 0)
⊕-bytes (x ∷ xs) (y ∷ ys) p q (suc i) = ⊕-bytes xs ys (λ j. p (suc j)) (λ j. q (suc j)) i

-- ---- blocks: a group

pub ⊕-block : {a b : List ℕ} → Block a → Block b → Block (a ⊕ b)
⊕-block {a} {b} p q = record { size = rw ⊕-length (omega arith); bytes = ⊕-bytes a b p.bytes q.bytes }

pub ⊕-cancel : {a b : List ℕ} → Block a → Block b → a ⊕ (a ⊕ b) ≡ b
⊕-cancel {a} {b} p q = ⊕-cancel-le a b (omega arith)

-- ---- bytes of parts of lists

pub bytes_take : (n : ℕ) (l : List ℕ) → Bytes l → Bytes (take n l)
bytes_take zero l h i = omega arith
bytes_take (suc n) [] h i = omega arith
bytes_take (suc n) (x ∷ xs) h zero = h 0
bytes_take (suc n) (x ∷ xs) h (suc i) = bytes_take n xs (λ j. h (suc j)) i

pub bytes_drop : (n : ℕ) (l : List ℕ) → Bytes l → Bytes (drop n l)
bytes_drop n l h i = rw get_or-drop (h (n + i))

pub bytes-append : (a b : List ℕ) → Bytes a → Bytes b → Bytes (a ++ b)
bytes-append [] b p q i = q i
bytes-append (x ∷ xs) b p q zero = p 0
bytes-append (x ∷ xs) b p q (suc i) = bytes-append xs b (λ j. p (suc j)) q i

pub bytes-cons : (x : ℕ) (l : List ℕ) → x < 256 → Bytes l → Bytes (x ∷ l)
bytes-cons x l h p zero = h
bytes-cons x l h p (suc i) = p i

pub bytes-nil : Bytes []
bytes-nil i = omega arith

pub bytes-replicate : (n : ℕ) → Bytes (replicate n 0)
bytes-replicate zero i = omega arith
bytes-replicate (suc n) zero = omega arith
bytes-replicate (suc n) (suc i) = bytes-replicate n i

pub zeros-block : Block zeros
unfolding zeros
zeros-block = record { size = refl; bytes = bytes-replicate 16 }

pub ⊕-replicate : (n : ℕ) (a : List ℕ) → length a ≤ n → a ⊕ replicate n 0 ≡ a
unfolding ◌⊕◌
⊕-replicate n [] h = refl
⊕-replicate zero (x ∷ xs) h = absurd (omega arith)
⊕-replicate (suc n) (x ∷ xs) h = ap₂ ◌∷◌ (xor_zero_r x) (⊕-replicate n xs (omega arith))

-- v XORed into the last element
pub set-last-⊕ : (k v : ℕ) (a : List ℕ) → length a ≡ suc k → set a k (bit_xor (get_or a k 0) v) ≡ a ⊕ (replicate k 0 ++ (v ∷ []))
unfolding ◌⊕◌
set-last-⊕ k v [] e = absurd (omega arith)
set-last-⊕ zero v (x ∷ []) e = refl
set-last-⊕ zero v (x ∷ y ∷ l) e = absurd (omega arith)
set-last-⊕ (suc k) v (x ∷ l) e = ap₂ ◌∷◌ (sym (xor_zero_r x)) (set-last-⊕ k v l (omega arith))

⊕-same : (a : List ℕ) → a ⊕ a ≡ replicate (length a) 0
unfolding ◌⊕◌
⊕-same [] = refl
⊕-same (x ∷ xs) = ap₂ ◌∷◌ (xor_self x) (⊕-same xs)

pub ⊕-zero : {a : List ℕ} → Block a → a ⊕ zeros ≡ a
unfolding zeros
⊕-zero {a} p = ⊕-replicate 16 a (omega arith)

pub zero-⊕ : {a : List ℕ} → Block a → zeros ⊕ a ≡ a
zero-⊕ {a} p = ⊕-comm zeros a ∙ ⊕-zero p

pub ⊕-self : {a : List ℕ} → Block a → a ⊕ a ≡ zeros
unfolding zeros
⊕-self {a} p = ⊕-same a ∙ ap (λ (n : ℕ). replicate n 0) p.size

-- b twice goes away
pub ⊕-again : {a b : List ℕ} → Block a → Block b → (a ⊕ b) ⊕ b ≡ a
⊕-again {a} {b} p q = ⊕-comm (a ⊕ b) b ∙ ap (λ (z : List ℕ). b ⊕ z) (⊕-comm a b) ∙ ⊕-cancel q p

-- a may be taken off on the left
pub ⊕-injective : {a b c : List ℕ} → Block a → Block b → Block c → a ⊕ b ≡ a ⊕ c → b ≡ c
⊕-injective {a} {b} {c} p q r e = sym (⊕-cancel p q) ∙ ap (λ (z : List ℕ). a ⊕ z) e ∙ ⊕-cancel p r

pub ⊕-injective-right : {a b c : List ℕ} → Block a → Block b → Block c → b ⊕ a ≡ c ⊕ a → b ≡ c
⊕-injective-right {a} {b} {c} p q r e = ⊕-injective p q r (⊕-comm a b ∙ e ∙ ⊕-comm c a)

pub take-⊕ : (n : ℕ) (a b : List ℕ) → take n (a ⊕ b) ≡ take n a ⊕ take n b
unfolding ◌⊕◌
take-⊕ zero a b = refl
take-⊕ (suc n) [] b = refl
take-⊕ (suc n) (x ∷ xs) [] = refl
take-⊕ (suc n) (x ∷ xs) (y ∷ ys) = ap (λ (z : List ℕ). bit_xor x y ∷ z) (take-⊕ n xs ys)

pub append-⊕ : (a b c d : List ℕ) → length a ≡ length c → (a ++ b) ⊕ (c ++ d) ≡ (a ⊕ c) ++ (b ⊕ d)
unfolding ◌⊕◌
append-⊕ [] b [] d h = refl
append-⊕ [] b (z ∷ zs) d h = absurd (omega arith)
append-⊕ (x ∷ xs) b [] d h = absurd (omega arith)
append-⊕ (x ∷ xs) b (z ∷ zs) d h = ap (λ (l : List ℕ). bit_xor x z ∷ l) (append-⊕ xs b zs d (omega arith))
