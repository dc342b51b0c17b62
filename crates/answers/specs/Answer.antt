-- What an entry answers: it does its work and returns values, or refuses under a number. Assumes nothing.
use Rattle.std.specs.Prelude.{◌≡◌, Bool, false, not, cond, List, [], ◌∷◌, ℕ, T, length, drop, Result, Ok, Err}
use Rattle.blocks.specs.Bytes.{put}

pub data Answer : Type 0 where
  done : List ℕ → Answer
  refused : ℕ → Answer

-- a refusal's number and whether its cause applies
infix 20 ◌when◌
pub data Cause : Type 0 where
  ◌when◌ : ℕ → Bool → Cause

-- the first refusal that applies, or else the answer a
abbrev pub first : List Cause → Answer → Answer
first [] a = a
first ((n when b) ∷ cs) a = cond b (refused n) (first cs a)

-- the number of an answer: 0 or the refusal's
abbrev pub number_of : Answer → ℕ
number_of (done vs) = 0
number_of (refused n) = n

-- the answer accepts: its number is 0, whatever values it returns
abbrev pub Accepts : Answer → Type 0
Accepts a = number_of a ≡ 0

-- the values that it returns
abbrev pub values_of : Answer → List ℕ
values_of (done vs) = vs
values_of (refused n) = []

-- what a function says that returns a value or refuses: v gives the values of what it returns, n the number of a refusal
abbrev pub said : {A E : Type 0} → (A → List ℕ) → (E → ℕ) → Result A E → Answer
said v n (Ok x) = done (v x)
said v n (Err e) = refused (n e)

-- x where the work was done, y where it was refused
abbrev pub if_done {ℓ} : {A : Type ℓ} → Answer → A → A → A
if_done (done vs) x y = x
if_done (refused n) x y = y

-- an entry's output o at its end: done, xs written from its start and what lies past it untouched; refused, as it came
abbrev pub output : Answer → List ℕ → List ℕ → List ℕ
output a xs o = if_done a (put 0 xs o) o

-- p is what an output o may have become at its end: as long as it was, and past its first n bytes as it was
pub record Kept (n : ℕ) (o p : List ℕ) : Type 0 where
  pub size : length p ≡ length o
  pub rest : drop n p ≡ drop n o

-- n is the number of the first cause that applies
pub data FirstOf (n : ℕ) : List Cause → Type 0 where
  here : {b : Bool} {cs : List Cause} → T b → FirstOf n ((n when b) ∷ cs)
  later : {m : ℕ} {b : Bool} {cs : List Cause} → T (not b) → FirstOf n cs → FirstOf n ((m when b) ∷ cs)

-- no cause applies
abbrev pub NoneOf : List Cause → Type 0
NoneOf [] = Unit {0}
NoneOf ((n when b) ∷ cs) = (b ≡ false) × NoneOf cs
