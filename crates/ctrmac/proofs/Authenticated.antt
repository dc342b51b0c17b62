-- CMAC of a text behind counter block 0: of an empty one, and of one that is not; over any block function. Assumes nothing.
use Rattle.prelude.proofs.{◌≡◌, ap, ◌∙◌, List, ◌++◌, ℕ, ◌-◌, ◌/◌, arith, length}
use Rattle.blocks.specs.Bytes.{◌⊕◌, zeros, piece}
use Rattle.blocks.proofs.Xor.{⊕-block, zero-⊕}
use Rattle.modes.specs.Cmac.{subkey₁, last_block, chain, cmac}
use Rattle.modes.proofs.Cmac.{last-whole, subkey₁-block, cmac-alone, cmac-front}
use Rattle.links.specs.Record.{counter_block}
use Rattle.links.proofs.Record.{counter-block}

module _ (E : List ℕ → List ℕ) (n s : ℕ) (text : List ℕ) where
  pub mac-empty : length text ≡ 0 → cmac E (counter_block n s 0 ++ text) ≡ E (subkey₁ E ⊕ counter_block n s 0)
  mac-empty e =
      let front = counter-block n s 0 in
      cmac-alone E (counter_block n s 0) text front.size e
      ∙ ap E (ap (λ (z : List ℕ). zeros ⊕ z) (last-whole E _ front.size) ∙ zero-⊕ (⊕-block (subkey₁-block E) front))

  -- the last block is number k
  abbrev k : ℕ
  k = (length text - 1) / 16

  pub mac-last : (length text ≡ 0 → ⊥)
      → cmac E (counter_block n s 0 ++ text) ≡ E (chain E (E (counter_block n s 0)) text k ⊕ last_block E (piece k text))
  mac-last h =
      let front = counter-block n s 0 in
      cmac-front E (counter_block n s 0) text front.size k (omega arith)
      ∙ ap (λ (x : List ℕ). E (chain E (E x) text k ⊕ last_block E (piece k text))) (zero-⊕ front)
