-- The words of a body, four bytes each. Assumes nothing.
use Rattle.prelude.proofs.{◌≡◌, refl, sym, ap, ap₂, ◌∙◌, Bool, List, [], ◌∷◌, ◌++◌, ℕ, zero, suc, ◌+◌, ◌*◌, ◌/◌, ◌≤◌, arith, length, take, drop}
use Rattle.prelude.proofs.{map, length-take-le, length-drop, w32, subst, take_all, get_or, take-append-drop, ◌<◌, ◌||◌}
use Rattle.std.proofs.lemmas.List.{drop-drop, take_more, map-append}
use Rattle.std.specs.Int.{from_be_bytes}
use Rattle.std.specs.Simd.{first_chunks}
use Rattle.blocks.specs.Bytes.{value, part, tab}
use Rattle.blocks.proofs.{ByBytes.tab-same, Parts.tab-cons}
use Rattle.body.specs.Words.{words, any_bad}
use Rattle.body.specs.declared.ReadRefusal.{ReadRefusal}
use Rattle.body.proofs.Words.{any-append}
use Rattle.reading.specs.Found.{Holds, IsBad}
use Rattle.reading.specs.declared.Found.{Found}

value-word : (s : List ℕ) → length s ≡ 4 → from_be_bytes w32 s ≡ value s
unfolding value
value-word (a ∷ b ∷ c ∷ d ∷ []) l = omega arith
value-word s l = absurd (omega arith)

chunks : (n : ℕ) (b : List ℕ) → 4 * n ≤ length b → map (from_be_bytes w32) (first_chunks 4 n b) ≡ tab n (λ i. value (part (4 * i) 4 b))
unfolding tab
chunks zero b h = refl
chunks (suc n) b h =
    ap₂ ◌∷◌ (value-word (take 4 b) (length-take-le 4 b (omega arith)))
    (chunks n (drop 4 b) (omega (arith, length-drop 4 b)) ∙ tab-same n _ _ (λ k l. ap (λ (s : List ℕ). value (take 4 s)) (drop-drop (4 * k) 4 b ∙ ap (λ (i : ℕ). drop i b) (omega arith))))
    ∙ sym (tab-cons n _)

pub words-of_chunks : (b : List ℕ) → map (from_be_bytes w32) (first_chunks 4 (length b / 4) b) ≡ words b
words-of_chunks b = chunks (length b / 4) b (omega arith)

-- ---- a loop over them

module _ (b : List ℕ) (chunks : List (List ℕ)) (e : chunks ≡ first_chunks 4 (length b / 4) b) where
  -- the words of the first i chunks
  abbrev taken : ℕ → List ℕ
  taken i = map (from_be_bytes w32) (take i chunks)

  pub all_taken : (i : ℕ) (f : Found) → Holds f (taken i) → length chunks ≤ i → Holds f (words b)
  all_taken i f H l = subst (Holds f) (ap (map (from_be_bytes w32)) (take_all i chunks l ∙ e) ∙ words-of_chunks b) H

  pub bad_among : (i : ℕ) {w : ℕ} {why : ReadRefusal} → IsBad why (taken i ++ (w ∷ [])) → i < length chunks
      → w ≡ from_be_bytes w32 (get_or chunks i []) → IsBad why (words b)
  bad_among i {w} B l says =
      let more : taken (i + 1) ≡ taken i ++ (w ∷ []) =
      ap (map (from_be_bytes w32)) (take_more chunks i [] l) ∙ map-append (from_be_bytes w32) (take i chunks) (get_or chunks i [] ∷ [])
      ∙ ap (λ (x : ℕ). taken i ++ (x ∷ [])) (sym says) in
      let rest = map (from_be_bytes w32) (drop (i + 1) chunks) in
      let whole : words b ≡ taken (i + 1) ++ rest =
      sym (words-of_chunks b) ∙ ap (map (from_be_bytes w32)) (sym e ∙ sym (take-append-drop (i + 1) chunks))
      ∙ map-append (from_be_bytes w32) (take (i + 1) chunks) (drop (i + 1) chunks) in
      record {
        told = B.told;
        bad =
            ap (any_bad []) whole ∙ any-append [] (taken (i + 1)) rest
            ∙ ap (λ (t : Bool). t || any_bad (taken (i + 1)) rest) (ap (any_bad []) more ∙ B.bad);
      }
