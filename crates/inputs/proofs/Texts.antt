-- The ciphertext's blocks in shares, as they are made; the last block's subkey. Assumes nothing.
use Rattle.prelude.proofs.{◌≡◌, sym, ap, ap₂, ◌∙◌, Bool, cond, List, ◌++◌, ℕ, suc, ◌+◌, ◌-◌, ◌%◌, ◌≤◌, arith, eqb, take, drop}
use Rattle.prelude.proofs.{replicate, take-take, eq-eqb, ne_eqb}
use Rattle.std.proofs.lemmas.List.{drop-replicate}
use Rattle.blocks.specs.Bytes.{part}
use Rattle.modes.specs.Cmac.{doubled}
use Rattle.links.specs.Record.{counter_block}
use Rattle.masking.specs.Shares.{Shares, each, only}
use Rattle.calls.specs.{Job.last_key, Sealed.cut, Sealed.text_block}
use Rattle.inputs.specs.Inputs.{out_at, block_shares}

-- the first n bytes of a block, copied over zeros
pub cut-copied : (at n : ℕ) (s : List ℕ) → n ≤ 16 → take (at + n - at) (drop at s) ++ drop n (replicate 16 0) ≡ cut n (part at 16 s)
cut-copied at n s h =
    let e : at + n - at ≡ n = omega arith in
    ap₂ (λ (xs ys : List ℕ). xs ++ ys) (ap (λ (k : ℕ). take k (drop at s)) e ∙ sym (take-take n 16 (drop at s) h)) (drop-replicate n 16 0)

-- ---- the last block's subkey

module _ (n : ℕ) (s t : Shares) where
  chosen : (b : Bool) → eqb (n % 16) 0 ≡ b → t ≡ each (λ l. cond b (doubled l) (doubled (doubled l))) s → t ≡ each (last_key n) s
  chosen b e h = h ∙ ap (λ (b : Bool). each (λ l. cond b (doubled l) (doubled (doubled l))) s) (sym e)

  pub key-once : n % 16 ≡ 0 → t ≡ each doubled s → t ≡ each (last_key n) s
  key-once e h = chosen _ (eq-eqb (n % 16) 0 e) h

  pub key_twice : (n % 16 ≡ 0 → ⊥) → t ≡ each (λ l. doubled (doubled l)) s → t ≡ each (last_key n) s
  key_twice e h = chosen _ (ne_eqb (n % 16) 0 e) h

-- ---- block j of what is authenticated: the first, and another

module _ (n q : ℕ) (m : List ℕ) (o : List (List ℕ)) (j : ℕ) (s : Shares) where
  pub mac-first : j ≡ 0 → s ≡ only (counter_block n q 0) → s ≡ block_shares n q m o j
  mac-first e h = h ∙ ap (block_shares n q m o) (sym e)

  pub mac-next : (j ≡ 0 → ⊥) → s ≡ text_block m (j - 1) (out_at (j - 1) o) → s ≡ block_shares n q m o j
  mac-next e h = let d : suc (j - 1) ≡ j = omega arith in h ∙ ap (block_shares n q m o) d
