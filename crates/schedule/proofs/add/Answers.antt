-- `add` meets its contract. Assumes nothing.
use Rattle.prelude.proofs.{◌∙◌, bit_xor, get_or, rules}
use Rattle.blocks.proofs.{Arrays.tab-from_fn, ByBytes.tab-⊕}
use Rattle.schedule.proofs.add.Goals as goal

pub returns : goal.returns
returns c =
    tab-from_fn _ _ (λ i. bit_xor (get_or c.args.s i 0) (get_or c.args.t i 0)) (λ i y q e. search rules) 16 c.from_fn.result c.from_fn.ensures.items
    ∙ tab-⊕ c.args.s c.args.t (search rules) (search rules)
