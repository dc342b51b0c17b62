-- `double_shares` meets its contract, share by share. Assumes nothing.
use Rattle.prelude.proofs.{ap, ◌∙◌, rules}
use Rattle.modes.specs.Cmac.{doubled}
use Rattle.masking.specs.Shares.{each, shares_in}
use Rattle.masking.proofs.{Shape.shares-same, Lane.three_back, Lane.shares-flat}
use Rattle.shares.specs.Packed.{shares_of}
use Rattle.shares.proofs.Onward.{packed-blocks}
use Rattle.inputs.proofs.double_shares.Goals as goal

pub returns : goal.returns
returns c =
    let s = c.args.s in
    c.pack_shares.ensures
    ∙ ap shares_in c.three_blocks.ensures
    ∙ three_back _ _ _ (search rules) (search rules) (search rules)
    ∙ shares-same (c.double.ensures ∙ ap doubled c.bytes_at.ensures)
    (c.double-2.ensures ∙ ap doubled c.bytes_at-2.ensures)
    (c.double-3.ensures ∙ ap doubled c.bytes_at-3.ensures)
    ∙ ap (each doubled) (ap shares_in c.unpack_shares-b.ensures ∙ shares-flat (shares_of s) (packed-blocks s))
