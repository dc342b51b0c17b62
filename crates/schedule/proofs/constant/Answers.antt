-- `constant` meets its contract: one test of each byte of each constant. Assumes nothing.
use Rattle.prelude.proofs.{refl, List, [], ◌∷◌, ℕ, ◌*◌, ◌/◌, ◌%◌, bit_xor, bit_and, get_or, ext_get_or}
use Rattle.bits.specs.Bit.{bit}
use Rattle.bits.proofs.Test.{agree²}
use Rattle.blocks.specs.Bits.{block_of}
use Rattle.baksheesh.specs.Baksheesh.{rounds, constants, constant}
use Rattle.schedule.proofs.constant.Goals as goal

-- the six bits of x at their places
abbrev spread : ℕ → List ℕ
spread x =
    0 ∷ 0 ∷ bit_and (x / 8) 4 ∷ 0 ∷ 0 ∷ 0 ∷ 0 ∷ bit_and (x / 2) 8 ∷ 0 ∷ 0 ∷ 0 ∷ bit_and x 8 ∷ 0 ∷ bit_and (x * 2 % 256) 8
    ∷ bit_xor (bit_and x 1) (bit_and (x * 16 % 256) 32) ∷ 0 ∷ []

pub returns : goal.returns
unfolding constant block_of bit
returns c =
    ext_get_or 0 _ _ refl
    (λ k h. agree² rounds 16 (λ n k. get_or (spread (get_or constants n 0)) k 0) (λ n k. get_or (constant n) k 0) tt c.args.n k c.requires h)
