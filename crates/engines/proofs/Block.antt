-- What a block call of any cipher answers and writes. Assumes nothing.
use Rattle.prelude.proofs.{◌≡◌, sym, ap, ap₂, ◌∙◌, Bool, true, false, not, cond, ◌&&◌, List, [], ℕ, arith, eqb, length, take_all, eqb-true, refl, rules}
use Rattle.blocks.specs.Bytes.{part, put}
use Rattle.blocks.proofs.{Parts.put_whole, Same.both_true}
use Rattle.answers.specs.Answer.{done, refused}
use Rattle.answers.proofs.First.{if-done, if-refused}
use Rattle.engines.specs.Block.{block_says, block_answer, block_output}
use Rattle.engines.specs.declared.BlockRefusal.{BlockRefusal}
use Rattle.engines.specs.declared.BlockRefusal.TheVariants.{BadLength}
use Rattle.std.specs.Prelude.{Result, Ok, Err, IsOk}

-- what the test of the lengths shows
pub record Long (k x o : ℕ) : Type 0 where
  pub key : k ≡ 16
  pub input : x ≡ 16
  pub output : o ≡ 16

are-long : (k x o : ℕ) → (eqb k 16 && eqb x 16 && eqb o 16) ≡ true → Long k x o
are-long k x o e =
    let all = both_true (eqb k 16 && eqb x 16) (eqb o 16) e in
    let two = both_true (eqb k 16) (eqb x 16) all.0 in
    record { key = eqb-true k 16 two.0; input = eqb-true x 16 two.1; output = eqb-true o 16 all.1 }

module _ (f : List ℕ → List ℕ → List ℕ) (k x o : List ℕ) {t : Bool}
    (tested : t ≡ (eqb (length k) 16 && eqb (length x) 16 && eqb (length o) 16)) where
  answered : {b : Bool} → t ≡ b → block_answer k x o ≡ cond (not b) (refused 5) (done [])
  unfolding block_answer
  answered h = ap (λ (z : Bool). cond (not z) (refused 5) (done [])) (sym tested ∙ h)

  pub is-refused : t ≡ false → (refused 5 ≡ block_answer k x o) × (o ≡ block_output f k x o)
  is-refused h = let e = answered h in (sym e, if-refused e (put 0 (f k x) o) o)

  -- the work: key and input read whole, and the output written whole
  pub is-done : (k' x' y o' : List ℕ) → t ≡ true → k' ≡ part 0 16 k → x' ≡ part 0 16 x → y ≡ f k' x'
      → length o' ≡ length o → o' ≡ y → (done [] ≡ block_answer k x o) × (o' ≡ block_output f k x o)
  is-done k' x' y o' h ek ex ey n eo =
      let e = answered h in
      let l = are-long (length k) (length x) (length o) (sym tested ∙ h) in
      let whole : o' ≡ f k x = eo ∙ ey ∙ ap₂ f (ek ∙ take_all 16 k (omega (arith, l.key))) (ex ∙ take_all 16 x (omega (arith, l.input))) in
      (sym e, sym (put_whole o' o n) ∙ ap (λ (z : List ℕ). put 0 z o) whole ∙ if-done e (put 0 (f k x) o) o)

-- a call on blocks is done
pub done-on_blocks : (k x o : List ℕ) → length k ≡ 16 → length x ≡ 16 → length o ≡ 16
    → (r : Result (Unit {0}) BlockRefusal) → block_says r ≡ block_answer k x o → IsOk r
unfolding block_answer
done-on_blocks k x o p q l (Ok u) e = search rules
done-on_blocks k x o p q l (Err BadLength) e =
    let done : block_answer k x o ≡ done [] = rw (p, q, l) refl in
    let f = e ∙ done in absurd (cc)
