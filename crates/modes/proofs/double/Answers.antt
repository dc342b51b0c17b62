-- `double` meets its contract. Assumes nothing.
use Rattle.prelude.proofs.{ap, ◌∙◌, List, ℕ, get_or, w8, Fits, rules}
use Rattle.blocks.specs.Bytes.{◌⊕◌}
use Rattle.blocks.proofs.Xor.{set-last-⊕}
use Rattle.modes.specs.Doubling.{product}
use Rattle.modes.proofs.Doubled.{product-added}
use Rattle.modes.proofs.double.Goals as goal

pub returns : goal.returns
returns c =
    let top : Fits w8 (get_or c.args.b 0 0) = search rules in
    set-last-⊕ 15 _ _ (search rules)
    ∙ ap (λ (z : List ℕ). z ⊕ product c.args.b) c.shift-r.ensures
    ∙ product-added _ top.fits
