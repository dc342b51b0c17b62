-- Words made of bytes by the library's methods. Assumes nothing.
use Rattle.prelude.proofs.{◌≡◌, sym, ap, ◌∙◌, subst, List, ℕ, ◌+◌, ◌*◌, ◌/◌, ◌%◌, ◌^◌, ◌<◌, mod-lt, arith, pow_pos, get_or}
use Rattle.bits.specs.Bit.{bit}
use Rattle.bits.proofs.Laws.{bit-low, bit-shr}
use Rattle.bits.proofs.XorOfBits.{Made, own, input}

-- x is a word of four bytes, and element (at k) of ws is its byte k, counted from the lowest
pub of_bytes : (ws : List ℕ) (x : ℕ) (at : ℕ → ℕ) → x < 2 ^ 32
    → ((k : ℕ) → k < 4 → x / 2 ^ (8 * k) % 2 ^ 8 ≡ get_or ws (at k) 0) → Made 32 ws x (λ i. own (at (i / 8)) (i % 8))
of_bytes ws x at fits e = record {
  width = omega arith;
  fits = fits;
  bits = λ i h.
      let k : ℕ = i / 8 in
      let j : ℕ = i % 8 in
      let p : i ≡ 8 * k + j = omega arith in
      let b : x / 2 ^ (8 * k) % 2 ^ 8 ≡ get_or ws (at k) 0 = e k (omega arith) in
      let small : get_or ws (at k) 0 < 2 ^ 8 = subst (λ (y : ℕ). y < 2 ^ 8) b (mod-lt _ (pow_pos 8)) in
      ap (bit x) p ∙ sym (bit-shr x (8 * k) j) ∙ sym (bit-low (x / 2 ^ (8 * k)) 8 j (omega arith))
      ∙ ap (λ (y : ℕ). bit y j) b ∙ (input 8 ws (at k) (omega arith) small).bits j (omega arith);
}
