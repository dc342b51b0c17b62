-- `gather` meets its contract: one test of where each bit comes from. Assumes nothing.
use Rattle.prelude.proofs.{◌≡◌, List, [], ◌∷◌, ℕ, ◌*◌, ◌/◌, ◌%◌, ◌^◌, get_or, arith, rules}
use Rattle.bits.proofs.{Test.four, XorOfBits.swapped, OfBytes.of_bytes}
use Rattle.packing.proofs.Bytes.{four_bytes, gathers}
use Rattle.packing.proofs.gather.Goals as goal

pub returns : goal.returns
returns c =
    let f = c.ranges in
    let small = four_bytes f.a.fits f.b.fits f.c.fits f.d.fits in
    let bytes : List ℕ = c.args.a ∷ c.args.b ∷ c.args.c ∷ c.args.d ∷ [] in
    let x : ℕ = c.from_le_bytes.result in
    let w = of_bytes bytes x (λ k. k) (search rules)
    (λ k h. four (λ k. x / 2 ^ (8 * k) % 2 ^ 8 ≡ get_or bytes k 0) (omega arith) (omega arith) (omega arith) (omega arith) k h) in
    gathers (swapped _ _ w c.swapmove.ensures) small tt
