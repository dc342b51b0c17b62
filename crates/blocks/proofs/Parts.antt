-- Parts of a list, parts written one behind the other, and loops that write an element a turn. Assumes nothing.
use Rattle.prelude.proofs.{◌≡◌, refl, ap, sym, ◌∙◌, List, [], ◌∷◌, ◌++◌, append_assoc, append-nil, ℕ, zero, suc, ◌+◌, ◌-◌, ◌≤◌, ◌<◌}
use Rattle.prelude.proofs.{zero-add, add-zero, add_assoc, add-one, arith, length, get_or, take, drop, set, replicate, length-append}
use Rattle.prelude.proofs.{length-drop, length-replicate, take-append-drop, replicate-append-replicate, length-take-le, take-take, take_at}
use Rattle.prelude.proofs.{drop_at, drop-drop, drop-append-add, drop-cons, set_at, drop-length, get_or-drop, take-suc, take-length}
use Rattle.blocks.specs.Bytes.{Bytes, put, tab, part}
use Rattle.blocks.proofs.Xor.{bytes_take, bytes_drop}

-- ---- parts

pub part_length : (at n : ℕ) (s : List ℕ) → at + n ≤ length s → length (part at n s) ≡ n
part_length at n s h = length-take-le n (drop at s) (omega (arith, length-drop at s))

pub part_bytes : (at n : ℕ) (s : List ℕ) → Bytes s → Bytes (part at n s)
part_bytes at n s b = bytes_take n (drop at s) (bytes_drop at s b)

-- one element more
pub part-more : (at n : ℕ) (s : List ℕ) → at + n < length s → part at (n + 1) s ≡ part at n s ++ (get_or s (at + n) 0 ∷ [])
part-more at n s h =
    ap (λ (k : ℕ). part at k s) (add-one n)
    ∙ take-suc (drop at s) n 0 (omega (arith, length-drop at s))
    ∙ ap (λ (x : ℕ). part at n s ++ (x ∷ [])) (get_or-drop at s n 0)

-- of what is taken of a list, and of a part
pub part-take : (p n k : ℕ) (l : List ℕ) → p + n ≤ k → part p n (take k l) ≡ part p n l
part-take zero n k l h = take-take n k l (omega arith)
part-take (suc p) n zero l h = absurd (omega arith)
part-take (suc p) n (suc k) [] h = refl
part-take (suc p) n (suc k) (x ∷ l) h = part-take p n k l (omega arith)

pub part-part : (at k p n q : ℕ) (o : List ℕ) → p + n ≤ k → q ≡ at + p → part p n (part at k o) ≡ part q n o
part-part at k p n q o h e = part-take p n k (drop at o) h ∙ ap (take n) (drop-drop p at o) ∙ ap (λ (i : ℕ). part i n o) (sym e)

-- ---- written, one behind the other and element by element

pub tab-length : (n : ℕ) (f : ℕ → ℕ) → length (tab n f) ≡ n
unfolding tab
tab-length zero f = refl
tab-length (suc n) f = length-append (tab n f) (f n ∷ []) ∙ ap (λ (k : ℕ). k + 1) (tab-length n f) ∙ add-one n

pub tab-zero : (f : ℕ → ℕ) → tab 0 f ≡ []
unfolding tab
tab-zero f = refl

pub tab-more : (n : ℕ) (f : ℕ → ℕ) → tab (n + 1) f ≡ tab n f ++ (f n ∷ [])
unfolding tab
tab-more n f = rw add-one

-- nothing is written
pub put-none : (at : ℕ) (o : List ℕ) → put at [] o ≡ o
unfolding put
put-none at o = rw (add-zero, take-append-drop)

-- from the start
pub put-start : (xs o : List ℕ) → put 0 xs o ≡ xs ++ drop (length xs) o
unfolding put
put-start xs o = rw zero-add

pub put-length : (at : ℕ) (xs o : List ℕ) → at + length xs ≤ length o → length (put at xs o) ≡ length o
unfolding put
put-length at xs o h =
    simp (length-append, length-drop, length-take-le at o (omega arith)) (omega arith)

-- what was written, with what stands before it, and the rest
cut : (at : ℕ) (xs o : List ℕ) → put at xs o ≡ (take at o ++ xs) ++ drop (at + length xs) o
unfolding put
cut at xs o = sym (append_assoc (take at o) xs (drop (at + length xs) o))

cut-length : (at : ℕ) (xs o : List ℕ) → at ≤ length o → length (take at o ++ xs) ≡ at + length xs
cut-length at xs o h = simp (length-append, length-take-le at o h)

-- a write right behind another one
pub put-put : (at : ℕ) (xs ys o : List ℕ) (n : ℕ) → n ≡ at + length xs → at + length xs ≤ length o
    → put n ys (put at xs o) ≡ put at (xs ++ ys) o
unfolding put
put-put at xs ys o n e h =
    let p : List ℕ = take at o ++ xs in
    let l : length p ≡ n = cut-length at xs o (omega arith) ∙ sym e in
    ap (λ (z : List ℕ). take n z ++ (ys ++ drop (n + length ys) z)) (cut at xs o)
    ∙ ap (λ (z : List ℕ). z ++ (ys ++ drop (n + length ys) (p ++ drop (at + length xs) o))) (take_at p (drop (at + length xs) o) n l)
    ∙ ap (λ (k : ℕ). p ++ (ys ++ drop (k + length ys) (p ++ drop (at + length xs) o))) (sym l)
    ∙ ap (λ (z : List ℕ). p ++ (ys ++ z))
    (drop-append-add p (drop (at + length xs) o) (length ys) ∙ drop-drop (length ys) (at + length xs) o)
    ∙ append_assoc (take at o) xs (ys ++ drop (at + length xs + length ys) o)
    ∙ ap (λ (z : List ℕ). take at o ++ z) (sym (append_assoc xs ys (drop (at + length xs + length ys) o)))
    ∙ ap (λ (k : ℕ). take at o ++ ((xs ++ ys) ++ drop k o))
    (add_assoc at (length xs) (length ys) ∙ ap (λ (k : ℕ). at + k) (sym (length-append xs ys)))

-- a store right behind a write
pub put-set : (at : ℕ) (xs o : List ℕ) (v n : ℕ) → n ≡ at + length xs → n < length o → set (put at xs o) n v ≡ put at (xs ++ (v ∷ [])) o
unfolding put
put-set at xs o v n e h =
    let p : List ℕ = take at o ++ xs in
    let l : length p ≡ n = cut-length at xs o (omega arith) ∙ sym e in
    let j : suc (at + length xs) ≡ at + length (xs ++ (v ∷ [])) = omega (arith, length-append xs (v ∷ [])) in
    ap (λ (z : List ℕ). set z n v) (cut at xs o ∙ ap (λ (z : List ℕ). p ++ z) (drop-cons o (at + length xs) 0 (omega arith)))
    ∙ set_at p (get_or o (at + length xs) 0) (drop (suc (at + length xs)) o) v n l
    ∙ append_assoc (take at o) xs (v ∷ drop (suc (at + length xs)) o)
    ∙ ap (λ (z : List ℕ). take at o ++ z) (sym (append_assoc xs (v ∷ []) (drop (suc (at + length xs)) o)))
    ∙ ap (λ (k : ℕ). take at o ++ ((xs ++ (v ∷ [])) ++ drop k o)) j

-- a store right in front of a write
pub set-put : (at v : ℕ) (xs o : List ℕ) → at < length o → set (put (at + 1) xs o) at v ≡ put at (v ∷ xs) o
unfolding put
set-put at v xs o h =
    let rest : List ℕ = xs ++ drop (at + 1 + length xs) o in
    let k : at + 1 + length xs ≡ at + length (v ∷ xs) = omega arith in
    ap (λ (z : List ℕ). set (z ++ rest) at v) (ap (λ (n : ℕ). take n o) (add-one at) ∙ take-suc o at 0 h)
    ∙ ap (λ (z : List ℕ). set z at v) (append_assoc (take at o) (get_or o at 0 ∷ []) rest)
    ∙ set_at (take at o) (get_or o at 0) rest v at (length-take-le at o (omega arith))
    ∙ ap (λ (n : ℕ). take at o ++ (v ∷ (xs ++ drop n o))) k

-- a loop that writes f 0, f 1, .. from at: before the first turn, the length, and a turn
pub fill_none : (at : ℕ) (f : ℕ → ℕ) (o : List ℕ) → o ≡ put at (tab 0 f) o
fill_none at f o = sym (ap (λ (xs : List ℕ). put at xs o) (tab-zero f) ∙ put-none at o)

pub fill-length : (at i : ℕ) (f : ℕ → ℕ) (o out : List ℕ) → out ≡ put at (tab i f) o → at + i ≤ length o → length out ≡ length o
fill-length at i f o out e h = ap length e ∙ put-length at (tab i f) o (omega (arith, tab-length i f))

pub fill_more : (at i v : ℕ) (f : ℕ → ℕ) (o out : List ℕ) → out ≡ put at (tab i f) o → at + i < length o → v ≡ f i
    → set out (at + i) v ≡ put at (tab (i + 1) f) o
fill_more at i v f o out e h d =
    ap (λ (z : List ℕ). set z (at + i) v) e
    ∙ put-set at (tab i f) o v (at + i) (ap (λ (k : ℕ). at + k) (sym (tab-length i f))) h
    ∙ ap (λ (w : ℕ). put at (tab i f ++ (w ∷ [])) o) d
    ∙ ap (λ (xs : List ℕ). put at xs o) (sym (tab-more i f))

pub fill_done : (at i n : ℕ) (f : ℕ → ℕ) (o out : List ℕ) → out ≡ put at (tab i f) o → i ≡ n → out ≡ put at (tab n f) o
fill_done at i n f o out e d = e ∙ ap (λ (k : ℕ). put at (tab k f) o) d

-- the whole list written over
pub put_whole : (xs o : List ℕ) → length xs ≡ length o → put 0 xs o ≡ xs
put_whole xs o e = put-start xs o ∙ ap (λ (k : ℕ). xs ++ drop k o) e ∙ ap (λ (z : List ℕ). xs ++ z) (drop-length o) ∙ append-nil xs

-- the part of s from at to at + n written over it
pub put-part : (at n : ℕ) (s o : List ℕ) → at + n ≤ length s → length o ≡ n → put 0 (part at (at + n - at) s) o ≡ part at n s
put-part at n s o h l =
    let e : at + n - at ≡ n = omega arith in
    ap (λ (k : ℕ). put 0 (part at k s) o) e ∙ put_whole (part at n s) o (part_length at n s h ∙ sym l)

-- written over zeros, from the start
pub put-zeros : (xs : List ℕ) (n : ℕ) → length xs ≤ n → put 0 xs (replicate n 0) ≡ xs ++ replicate (n - length xs) 0
put-zeros xs n h =
    let k : ℕ = length xs in
    let e : n ≡ k + (n - k) = omega arith in
    put-start xs (replicate n 0)
    ∙ ap (λ (z : List ℕ). xs ++ z)
    (ap (λ (i : ℕ). drop {A = ℕ} k (replicate i 0)) e
    ∙ ap (drop k) (sym (replicate-append-replicate k (n - k) 0))
    ∙ drop_at (replicate k 0) (replicate (n - k) 0) k (length-replicate k 0))

-- three parts written over a whole list
pub put_three : (x y z o : List ℕ) (m n : ℕ) → m ≡ length x → n ≡ length x + length y → length x + length y + length z ≡ length o
    → put n z (put m y (put 0 x o)) ≡ x ++ (y ++ z)
put_three x y z o m n em en e =
    ap (put n z) (put-put 0 x y o m (omega arith) (omega arith))
    ∙ put-put 0 (x ++ y) z o n (simp length-append (omega arith)) (simp length-append (omega arith))
    ∙ put_whole ((x ++ y) ++ z) o (simp length-append e)
    ∙ append_assoc x y z

-- a loop that writes a whole list from its start
pub all_none : (f : ℕ → ℕ) (o : List ℕ) → o ≡ put 0 (tab 0 f) o
all_none = fill_none 0

pub all_more : (i v : ℕ) (f : ℕ → ℕ) (o out : List ℕ) → out ≡ put 0 (tab i f) o → i < length o → v ≡ f i
    → set out i v ≡ put 0 (tab (i + 1) f) o
all_more i v f o out e h d = ap (λ (n : ℕ). set out n v) (sym (zero-add i)) ∙ fill_more 0 i v f o out e (omega arith) d

pub all_done : (i n : ℕ) (f : ℕ → ℕ) (o out : List ℕ) → out ≡ put 0 (tab i f) o → i ≡ n → length o ≡ n → out ≡ tab n f
all_done i n f o out e d l = fill_done 0 i n f o out e d ∙ put_whole (tab n f) o (tab-length n f ∙ sym l)

-- the first element apart
pub tab-cons : (n : ℕ) (f : ℕ → ℕ) → tab (suc n) f ≡ f 0 ∷ tab n (λ (i : ℕ). f (suc i))
unfolding tab
tab-cons zero f = refl
tab-cons (suc n) f = ap (λ (l : List ℕ). l ++ (f (suc n) ∷ [])) (tab-cons n f)

-- the elements of a part, by their places
pub tab-part : (n at : ℕ) (s : List ℕ) → at + n ≤ length s → tab n (λ i. get_or s (at + i) 0) ≡ take n (drop at s)
unfolding tab
tab-part zero at s h = refl
tab-part (suc n) at s h =
    ap (λ (z : List ℕ). z ++ (get_or s (at + n) 0 ∷ [])) (tab-part n at s (omega arith))
    ∙ sym (part-more at n s (omega arith))
    ∙ ap (λ (k : ℕ). part at k s) (add-one n)

-- the elements of a whole list, by their places
pub tab-list : (s : List ℕ) → tab (length s) (λ i. get_or s i 0) ≡ s
tab-list s = ap (tab (length s)) (λ j i. get_or s (sym (zero-add i) j) 0) ∙ tab-part (length s) 0 s (omega arith) ∙ take-length s

pub put_one : (at b : ℕ) (o : List ℕ) → at < length o → set o at b ≡ put at (b ∷ []) o
put_one at b o h = ap (λ (z : List ℕ). set z at b) (sym (put-none at o)) ∙ put-set at [] o b at (sym (add-zero at)) h

-- two lists of one length, and what stands behind them
pub parted : (a b c d : List ℕ) → length a ≡ length b → a ++ c ≡ b ++ d → (a ≡ b) × (c ≡ d)
parted a b c d l e = (
  sym (take_at a c (length a) refl) ∙ ap (take (length a)) e ∙ take_at b d (length a) (sym l),
  sym (drop_at a c (length a) refl) ∙ ap (drop (length a)) e ∙ drop_at b d (length a) (sym l),
)
