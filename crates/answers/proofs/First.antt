-- A refusal's number is that of the first cause that applies, and of no other; an answer accepts where none applies.
-- Assumes nothing.
use Rattle.prelude.proofs.{◌≡◌, refl, sym, ap, ◌∙◌, subst, ◌↔◌, Bool, true, false, not, cond, ◌&&◌, List, [], ◌∷◌, ◌++◌, ℕ, zero, suc, ◌≤◌}
use Rattle.prelude.proofs.{◌<◌, arith, T, eqb, ltb, take, drop, eq-eqb, ne_eqb, lt-ltb, le-ltb, le-leb, lt-leb, eqb-false, not-true}
use Rattle.prelude.proofs.{false≢true}
use Rattle.blocks.proofs.Same.{both_true}
use Rattle.answers.specs.Answer.{Answer, done, refused, Cause, ◌when◌, first, number_of, values_of, Accepts, if_done}
use Rattle.answers.specs.Answer.{FirstOf, here, later, NoneOf}

refused-first : (n : ℕ) (cs : List Cause) (a : Answer) → FirstOf n cs → first cs a ≡ refused n
refused-first n cs a (here {b = true} t) = refl
refused-first n cs a (here {b = false} t) = absurd t
refused-first n cs a (later {b = true} t f) = absurd t
refused-first n cs a (later {b = false} {cs = ds} t f) = refused-first n ds a f

done_refused : (n : ℕ) (vs : List ℕ) → done vs ≡ refused n → ⊥
done_refused n vs e = let z : ◌≡◌ {A = ℕ} 0 1 = cc in omega arith

first-refused : (n : ℕ) (cs : List Cause) (vs : List ℕ) → first cs (done vs) ≡ refused n → FirstOf n cs
first-refused n [] vs e = absurd (done_refused n vs e)
first-refused n ((m when true) ∷ cs) vs e = let z : n ≡ m = cc in subst (λ (k : ℕ). FirstOf n ((k when true) ∷ cs)) z (here tt)
first-refused n ((m when false) ∷ cs) vs e = later tt (first-refused n cs vs e)

-- each refusal number has exactly its cause, in their order
pub refused-exactly : (n : ℕ) (cs : List Cause) (vs : List ℕ) → first cs (done vs) ≡ refused n ↔ FirstOf n cs
refused-exactly n cs vs = (first-refused n cs vs, refused-first n cs (done vs))

-- ---- a number that one cause alone has

-- no cause has the number n
abbrev pub lacks : ℕ → List Cause → Bool
lacks n [] = true
lacks n ((m when b) ∷ cs) = not (eqb m n) && lacks n cs

lacks-refused : (n : ℕ) (cs : List Cause) (vs : List ℕ) → lacks n cs ≡ true → first cs (done vs) ≡ refused n → ⊥
lacks-refused n [] vs l e = done_refused n vs e
lacks-refused n ((m when true) ∷ cs) vs l e = eqb-false m n (not-true (eqb m n) (both_true (not (eqb m n)) (lacks n cs) l).0) cc
lacks-refused n ((m when false) ∷ cs) vs l e = lacks-refused n cs vs (both_true (not (eqb m n)) (lacks n cs) l).1 e

-- it is answered exactly where its cause applies and none before it does
pub refused-here : (n : ℕ) (b : Bool) (cs : List Cause) (vs : List ℕ) → lacks n cs ≡ true
    → first ((n when b) ∷ cs) (done vs) ≡ refused n ↔ b ≡ true
refused-here n true cs vs l = (λ e. refl, λ e. refl)
refused-here n false cs vs l = (λ e. absurd (lacks-refused n cs vs l e), λ e. absurd (false≢true e))

pub refused-later : (n m : ℕ) (b : Bool) (cs : List Cause) (vs : List ℕ) → eqb m n ≡ false
    → first ((m when b) ∷ cs) (done vs) ≡ refused n ↔ ((b ≡ false) × (first cs (done vs) ≡ refused n))
refused-later n m true cs vs h = (λ e. absurd (eqb-false m n h cc), λ e. absurd (false≢true (sym e.0)))
refused-later n m false cs vs h = (λ e. (refl, e), λ e. e.1)

-- ---- the cause at place k, from 0, is the first that applies

-- it applies; its number
abbrev pub Applies : ℕ → List Cause → Type 0
Applies k [] = ⊥
Applies zero ((n when b) ∷ cs) = b ≡ true
Applies (suc k) ((n when b) ∷ cs) = Applies k cs

abbrev pub number_at : ℕ → List Cause → ℕ
number_at k [] = 0
number_at zero ((n when b) ∷ cs) = n
number_at (suc k) ((n when b) ∷ cs) = number_at k cs

pub refused-at : (k : ℕ) (cs : List Cause) (a : Answer) → NoneOf (take k cs) → Applies k cs → first cs a ≡ refused (number_at k cs)
refused-at k [] a h e = absurd e
refused-at zero ((n when b) ∷ cs) a h e = ap (λ (t : Bool). cond t (refused n) (first cs a)) e
refused-at (suc k) ((n when b) ∷ cs) a h e = ap (λ (t : Bool). cond t (refused n) (first cs a)) h.0 ∙ refused-at k cs a h.1 e

-- ---- the work is done exactly where no cause applies

pub done_none : (cs : List Cause) (a : Answer) → NoneOf cs → first cs a ≡ a
done_none [] a h = refl
done_none ((n when b) ∷ cs) a h = ap (λ (t : Bool). cond t (refused n) (first cs a)) h.0 ∙ done_none cs a h.1

-- none of the first k applies, and none behind them
pub none_both : (k : ℕ) (cs : List Cause) → NoneOf (take k cs) → NoneOf (drop k cs) → NoneOf cs
none_both zero cs h l = l
none_both (suc k) [] h l = tt
none_both (suc k) ((n when b) ∷ cs) h l = (h.0, none_both k cs h.1 l)

-- ---- causes behind others

pub none-append : (cs ds : List Cause) → NoneOf cs → NoneOf ds → NoneOf (cs ++ ds)
none-append [] ds h l = l
none-append ((n when b) ∷ cs) ds h l = (h.0, none-append cs ds h.1 l)

pub none-parts : (cs ds : List Cause) → NoneOf (cs ++ ds) → NoneOf cs × NoneOf ds
none-parts [] ds h = (tt, h)
none-parts ((n when b) ∷ cs) ds h = let l = none-parts cs ds h.1 in ((h.0, l.0), l.1)

pub refused-before : (n : ℕ) (cs ds : List Cause) (vs : List ℕ) (a : Answer) → first cs (done vs) ≡ refused n
    → first (cs ++ ds) a ≡ refused n
refused-before n [] ds vs a e = absurd (done_refused n vs e)
refused-before n ((m when true) ∷ cs) ds vs a e = e
refused-before n ((m when false) ∷ cs) ds vs a e = refused-before n cs ds vs a e

pub done-before : (cs ds : List Cause) (vs ws : List ℕ) (a : Answer) → first cs (done vs) ≡ done ws
    → (vs ≡ ws) × (first (cs ++ ds) a ≡ first ds a)
done-before [] ds vs ws a e = (ap values_of e, refl)
done-before ((m when true) ∷ cs) ds vs ws a e = absurd (done_refused m ws (sym e))
done-before ((m when false) ∷ cs) ds vs ws a e = done-before cs ds vs ws a e

-- ---- an answer's number tells whether the work was done

-- no cause has the number 0
abbrev pub numbered : List Cause → Bool
numbered [] = true
numbered ((zero when b) ∷ cs) = false
numbered ((suc n when b) ∷ cs) = numbered cs

pub accepts-none : (cs : List Cause) (vs : List ℕ) → T (numbered cs) → Accepts (first cs (done vs)) → NoneOf cs
accepts-none [] vs h e = tt
accepts-none ((zero when b) ∷ cs) vs h e = absurd h
accepts-none ((suc n when true) ∷ cs) vs h e = absurd (omega arith)
accepts-none ((suc n when false) ∷ cs) vs h e = (refl, accepts-none cs vs h e)

pub accepts-done : (cs : List Cause) (vs : List ℕ) → T (numbered cs) → Accepts (first cs (done vs)) → first cs (done vs) ≡ done vs
accepts-done cs vs h e = done_none cs (done vs) (accepts-none cs vs h e)

pub none-accepts : (cs : List Cause) (vs : List ℕ) → NoneOf cs → Accepts (first cs (done vs))
none-accepts cs vs h = ap number_of (done_none cs (done vs) h)

-- answers of one number, behind the same causes
pub same_number : (cs : List Cause) (a b : Answer) → number_of a ≡ number_of b → number_of (first cs a) ≡ number_of (first cs b)
same_number [] a b e = e
same_number ((n when true) ∷ cs) a b e = refl
same_number ((n when false) ∷ cs) a b e = same_number cs a b e

pub not-accepts : (a : Answer) → (Accepts a → ⊥) → a ≡ refused (number_of a)
not-accepts (done vs) h = absurd (h refl)
not-accepts (refused n) h = refl

-- ---- what follows from an answer

pub if-done {ℓ} : {A : Type ℓ} {a : Answer} {vs : List ℕ} → a ≡ done vs → (x y : A) → x ≡ if_done a x y
if-done e x y = ap (λ (a : Answer). if_done a x y) (sym e)

pub if-refused {ℓ} : {A : Type ℓ} {a : Answer} {n : ℕ} → a ≡ refused n → (x y : A) → y ≡ if_done a x y
if-refused e x y = ap (λ (a : Answer). if_done a x y) (sym e)

-- the equations of an entry whose answer a is b: it says b, and leaves one thing, two or three as that answer leaves them
pub leaves-one {ℓ} : {A : Type ℓ} {a b s : Answer} → a ≡ b → s ≡ b → (x y : A) {t : A} → t ≡ if_done b x y → (s ≡ a) × (t ≡ if_done a x y)
leaves-one e d x y p = (d ∙ sym e, p ∙ ap (λ (a : Answer). if_done a x y) (sym e))

pub leaves-two {ℓ ℓ'} : {A : Type ℓ} {B : Type ℓ'} {a b s : Answer} → a ≡ b → s ≡ b
    → (x y : A) {t : A} → t ≡ if_done b x y → (z w : B) {u : B} → u ≡ if_done b z w → (s ≡ a) × ((t ≡ if_done a x y) × (u ≡ if_done a z w))
leaves-two e d x y p z w q = (d ∙ sym e, ((leaves-one e d x y p).1, (leaves-one e d z w q).1))

pub leaves-three {ℓ ℓ' ℓ''} : {A : Type ℓ} {B : Type ℓ'} {C : Type ℓ''} {a b s : Answer} → a ≡ b → s ≡ b
    → (x y : A) {t : A} → t ≡ if_done b x y → (z w : B) {u : B} → u ≡ if_done b z w → (j k : C) {v : C} → v ≡ if_done b j k
    → (s ≡ a) × ((t ≡ if_done a x y) × ((u ≡ if_done a z w) × (v ≡ if_done a j k)))
leaves-three e d x y p z w q j k r = (d ∙ sym e, ((leaves-one e d x y p).1, (leaves-two e d z w q j k r).1))

-- ---- of two things, one where a test holds and one where it does not

pub either : {A : Type 0} (P : A → Type 0) (t : Bool) {x y : A} → (t ≡ true → P x) → (t ≡ false → P y) → P (cond t x y)
either P true f g = f refl
either P false f g = g refl

-- ---- a test's value, from the fact that it tests

-- a test fails exactly where what it tests is not so
pub fails-exactly : (t : Bool) {A : Type 0} → t ≡ true ↔ A → not t ≡ true ↔ (A → ⊥)
fails-exactly true e = (λ h. absurd (false≢true h), λ f. absurd (f (e.0 refl)))
fails-exactly false e = (λ h a. false≢true (e.1 a), λ f. refl)

pub eq-not : (a b : ℕ) → a ≡ b → not (eqb a b) ≡ false
eq-not a b h = ap not (eq-eqb a b h)

pub ne-not : (a b : ℕ) → (a ≡ b → ⊥) → not (eqb a b) ≡ true
ne-not a b h = ap not (ne_eqb a b h)

pub lt_not : (a b : ℕ) → a < b → not (ltb a b) ≡ false
lt_not a b h = ap not (lt-ltb a b h)

pub le_not : (a b : ℕ) → b ≤ a → not (ltb a b) ≡ true
le_not a b h = ap not (le-ltb a b h)

pub ruleset tests = (eq-eqb, ne_eqb, lt-ltb, le-ltb, le-leb, lt-leb, eq-not, ne-not, lt_not, le_not)
