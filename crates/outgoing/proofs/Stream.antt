-- Three shares, one behind the other, joined byte by byte; those of CTR's calls make whole blocks. Assumes nothing.
use Rattle.prelude.proofs.{◌≡◌, refl, sym, ap, ap₂, ◌∙◌, List, ◌++◌, ℕ, ◌+◌, ◌≤◌, ◌<◌, arith, bit_xor, length, take, drop, replicate}
use Rattle.prelude.proofs.{get_or, get_or-take, get_or-drop, take_at, length-take, length-append}
use Rattle.blocks.specs.Bytes.{◌⊕◌, part}
use Rattle.blocks.proofs.{Xor.⊕-length, Xor.get_or-⊕, Parts.part_length}
use Rattle.masking.specs.Shares.{join, shares_in}

-- three blocks, one behind the other, join to one
pub join-length : (b : List ℕ) → length b ≡ 48 → length (join (shares_in b)) ≡ 16
unfolding join
join-length b l =
    ⊕-length (part 0 16 b) (part 16 16 b ⊕ part 32 16 b)
    ∙ omega (
      arith,
      ⊕-length (part 16 16 b) (part 32 16 b),
      part_length 0 16 b (omega arith),
      part_length 16 16 b (omega arith),
      part_length 32 16 b (omega arith),
    )

-- byte by byte
pub join-at : (b : List ℕ) (i : ℕ) → length b ≡ 48 → i < 16
    → get_or (join (shares_in b)) i 0 ≡ bit_xor (get_or b i 0) (bit_xor (get_or b (16 + i) 0) (get_or b (32 + i) 0))
unfolding join
join-at b i l h =
    get_or-⊕ (part 0 16 b) (part 16 16 b ⊕ part 32 16 b) i (size 0 (omega arith) ∙ sym both)
    ∙ ap₂ bit_xor (there 0 (omega arith) ∙ ap (λ (k : ℕ). get_or b k 0) (omega arith))
    (get_or-⊕ (part 16 16 b) (part 32 16 b) i (size 16 (omega arith) ∙ sym (size 32 (omega arith))) ∙ ap₂ bit_xor (there 16 (omega arith))
    (there 32 (omega arith)))
  where
    size : (p : ℕ) → p + 16 ≤ 48 → length (part p 16 b) ≡ 16
    size p q = part_length p 16 b (omega arith)

    both : length (part 16 16 b ⊕ part 32 16 b) ≡ 16
    both = ⊕-length (part 16 16 b) (part 32 16 b) ∙ omega (arith, size 16 (omega arith), size 32 (omega arith))

    there : (p : ℕ) → p + 16 ≤ 48 → get_or (part p 16 b) i 0 ≡ get_or b (p + i) 0
    there p q = get_or-take 16 (drop p b) i 0 h ∙ get_or-drop p b i 0

-- 16 bytes of any list: those of a block are the block
abbrev pub whole : List ℕ → List ℕ
whole b = take 16 (b ++ replicate 16 0)

pub whole-length : (b : List ℕ) → length (whole b) ≡ 16
whole-length b = simp (length-take, length-append) (omega arith)

pub whole-block : (b : List ℕ) → length b ≡ 16 → whole b ≡ b
whole-block b e = rw (← e) (take_at b (replicate 16 0) (length b) refl)
