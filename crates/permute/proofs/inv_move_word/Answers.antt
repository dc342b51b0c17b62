-- `inv_move_word` meets its contract: one test of what its swaps do to each bit. Assumes nothing.
use Rattle.prelude.proofs.{◌≡◌, List, [], ◌∷◌, refl, ℕ, length, rules}
use Rattle.std.specs.Prelude.{reverse}
use Rattle.bits.proofs.XorOfBits.{alone, equal, moved}
use Rattle.permute.specs.InWord.{to_in_word}
use Rattle.permute.proofs.Swaps.{row, all-swapped}
use Rattle.permute.proofs.inv_move_word.Goals as goal

none-left : (l : List (ℕ × ℕ)) → length l ≡ 0 → l ≡ []
none-left [] e = refl
none-left (s ∷ l) e = absurd (cc)

pub returns : goal.returns
returns c =
    let all : c.into_iter-mask-iterator.result.iter.rest.now ≡ row = search rules in
    let none = none-left _ c.in-None.ensures.steps.0 in
    moved (equal (all-swapped (reverse row) (alone tt c.ranges.x.fits)) (rw (none, all) at c.loop-mask.invariant))
    (λ _. 0) to_in_word tt
