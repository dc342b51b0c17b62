-- `rotate` meets its contract. Assumes nothing.
use Rattle.prelude.proofs.{◌∙◌, ◌+◌, ◌-◌, ◌/◌, ◌%◌, get_or, w8, Fits, rules}
use Rattle.blocks.proofs.Arrays.{tab-from_fn}
use Rattle.schedule.proofs.Rotated.{shifted, tab-rotated}
use Rattle.schedule.proofs.rotate.Goals as goal

pub returns : goal.returns
returns c =
    let k = c.args.k in
    let n = c.args.n in
    tab-from_fn _ _ (λ i. shifted (get_or k ((i + 16 - n / 8) % 16) 0) (get_or k ((i + 16 - n / 8 + 15) % 16) 0) (n % 8))
    (λ i y q e. search rules) 16 c.from_fn.result c.from_fn.ensures.items
    ∙ tab-rotated n k (search rules) (λ i. let f : Fits w8 (get_or k i 0) = search rules in f.fits)
