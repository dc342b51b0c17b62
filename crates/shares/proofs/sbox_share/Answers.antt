-- `sbox_share` meets its contract: each word is the bit form's, with three products for each. Assumes nothing.
use Rattle.prelude.proofs.{◌≡◌, ap, ◌∙◌, ℕ, ◌<◌}
use Rattle.bits.specs.Bit.{bit}
use Rattle.shares.proofs.Packed.{ones-if, share-words}
use Rattle.shares.proofs.sbox_share.Goals as goal

pub returns : goal.returns
returns c =
    -- each bit of the word for 1
    let one : (i : ℕ) → i < 32 → bit c.ones_if-one.result i ≡ c.args.first =
    λ i h. ap (λ (x : ℕ). bit x i) c.ones_if-one.ensures ∙ ones-if c.args.first i h in
    share-words _ _ one _ _
