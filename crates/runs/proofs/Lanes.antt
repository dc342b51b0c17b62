-- Which of a report's numbers is wrong, by the causes that its lane has. Assumes nothing.
use Rattle.prelude.proofs.{◌≡◌, refl, ap, ◌↔◌, Iff-trans, Iff-and, true, false, not, List, [], ◌∷◌, ℕ, ◌≤◌, eqb, leb, ltb, drop}
use Rattle.prelude.proofs.{leb-true, le-leb, ltb-true, lt-ltb, ltb-false, le-ltb, not-false}
use Rattle.blocks.proofs.Same.{both_true}
use Rattle.answers.specs.Answer.{done, refused, Cause, ◌when◌, first, NoneOf}
use Rattle.answers.proofs.First.{lacks, refused-here, refused-later, accepts-none, none-accepts, fails-exactly}
use Rattle.runs.specs.Lanes.{within, Within, lane_size, round_causes, lane_causes, TellsNumber}

-- ---- a number in its range or not

is_within : (a b n : ℕ) → within a b n ≡ true ↔ Within a b n
is_within a b n = (
  λ e. let h = both_true (leb a n) (leb n b) e in (leb-true a n h.0, leb-true n b h.1),
  λ h. simp (le-leb a n h.0, le-leb n b h.1),
)

inside : (a b n : ℕ) → not (within a b n) ≡ false ↔ Within a b n
inside a b n = (λ h. (is_within a b n).0 (not-false (within a b n) h), λ w. ap not ((is_within a b n).1 w))

outside : (a b n : ℕ) → not (within a b n) ≡ true ↔ (Within a b n → ⊥)
outside a b n = fails-exactly (within a b n) (is_within a b n)

-- ---- a number's own cause, and a cause before others

told_here : (n a b x : ℕ) (cs : List Cause) → lacks n cs ≡ true
    → first ((n when not (within a b x)) ∷ cs) (done []) ≡ refused n ↔ (Within a b x → ⊥)
told_here n a b x cs l = Iff-trans (refused-here n _ cs [] l) (outside a b x)

told-later : (n m a b x : ℕ) (cs : List Cause) {A : Type 0} → eqb m n ≡ false → first cs (done []) ≡ refused n ↔ A
    → first ((m when not (within a b x)) ∷ cs) (done []) ≡ refused n ↔ (Within a b x × A)
told-later n m a b x cs h e = Iff-trans (refused-later n m _ cs [] h) (Iff-and (inside a b x) e)

-- ---- lane i of round r of call k

module _ (c p k r i o : ℕ) where
  pub none-exactly : NoneOf (lane_causes c p k r i o) ↔ (Within 1 c k × (Within 1 p r × (Within 0 2 i × (lane_size ≤ o))))
  none-exactly =
      Iff-and (inside 1 c k) (Iff-and (inside 1 p r)
      (Iff-and (inside 0 2 i) (λ h. ltb-false o lane_size h.0, λ h. (le-ltb o lane_size h, tt))))

  pub tells-number : TellsNumber c p k r i o (first (lane_causes c p k r i o) (done []))
  tells-number =
      let cs = round_causes p r i o in
      record {
        bad-call = told_here 6 1 c k cs refl;
        bad-round = told-later 33 6 1 c k cs refl (told_here 33 1 p r (drop 1 cs) refl);
        bad-lane = told-later 34 6 1 c k cs refl (told-later 34 33 1 p r (drop 1 cs) refl (told_here 34 0 2 i (drop 2 cs) refl));
        no_room = told-later 4 6 1 c k cs refl (told-later 4 33 1 p r (drop 1 cs) refl (told-later 4 34 0 2 i (drop 2 cs) refl
            (Iff-trans (refused-here 4 (ltb o lane_size) [] [] refl) (ltb-true o lane_size, lt-ltb o lane_size))));
        shown = Iff-trans (accepts-none (lane_causes c p k r i o) [] tt, none-accepts (lane_causes c p k r i o) []) none-exactly;
      }
