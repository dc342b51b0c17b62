-- The array of what a closure gives at each index, or of each element of an array. The closure changes nothing that it captures.
-- Assumes nothing.
use Rattle.prelude.proofs.{◌≡◌, sym, ap, ◌∙◌, subst, List, ℕ, zero, suc, ◌+◌, ◌<◌, ◌≤◌, ℕ_discrete, arith, get_or}
use denote.Param.Members.{Mut}
use Rattle.std.specs.Fn.{Called}
use Rattle.std.specs.Array.{IsFromFnResultFrom, IsFromFnResult, MapsFrom, IsMapOf}
use Rattle.blocks.specs.Bytes.{tab}
use Rattle.blocks.proofs.ByBytes.{tab-known}

module _ {F : Type 0} (g : Mut F (ℕ × Unit {0}) ℕ) (f : F) (h : ℕ → ℕ)
    (gives : (x y : ℕ) (q : F) → Called g f (x, tt) y q → (q ≡ f) × (y ≡ h x)) where
  at-index : (n i : ℕ) (ys : List ℕ) → IsFromFnResultFrom g f ys i n → (k : ℕ) → i ≤ k → k < i + n → get_or ys k 0 ≡ h k
  at-index zero i ys r k l m = absurd (omega arith)
  at-index (suc n) i ys r k l m =
      let e = gives i r.1 r.0 r.3 in
      elim (ℕ_discrete i k) [
        | yes d ↦ subst (λ (k : ℕ). get_or ys k 0 ≡ h k) d (r.2.1 0 ∙ e.1)
        | no d ↦ at-index n (i + 1) ys (subst (λ (q : F). IsFromFnResultFrom g q ys (i + 1) n) e.0 r.4) k (omega arith) (omega arith)
      ]

  pub tab-from_fn : (n : ℕ) (ys : List ℕ) → IsFromFnResult g f ys n → ys ≡ tab n h
  tab-from_fn n ys r = sym (tab-known h ys r.long (λ k l. sym (at-index n 0 ys r.each k (omega arith) (omega arith))))

  at-element : (n i : ℕ) (xs ys : List ℕ) → MapsFrom g f xs ys i n
      → (k : ℕ) → i ≤ k → k < i + n → get_or ys k 0 ≡ h (get_or xs k 0)
  at-element zero i xs ys r k l m = absurd (omega arith)
  at-element (suc n) i xs ys r k l m =
      let e = gives r.1 r.2 r.0 r.5 in
      elim (ℕ_discrete i k) [
        | yes d ↦ subst (λ (k : ℕ). get_or ys k 0 ≡ h (get_or xs k 0)) d (r.4.1 0 ∙ e.1 ∙ ap h (sym (r.3.1 0)))
        | no d ↦
            at-element n (i + 1) xs ys (subst (λ (q : F). MapsFrom g q xs ys (i + 1) n) e.0 r.6) k (omega arith) (omega arith)
      ]

  pub tab-map : (n : ℕ) (xs ys : List ℕ) → IsMapOf g f xs ys n → ys ≡ tab n (λ k. h (get_or xs k 0))
  tab-map n xs ys r =
      sym (tab-known (λ k. h (get_or xs k 0)) ys r.long (λ k l. sym (at-element n 0 xs ys r.each k (omega arith) (omega arith))))
