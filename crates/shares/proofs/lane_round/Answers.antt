-- `lane_round` meets its contract, by its steps. Assumes nothing.
use Rattle.prelude.proofs.{ap, ◌∙◌, List, ℕ}
use Rattle.blocks.specs.Bytes.{◌⊕◌}
use Rattle.baksheesh.specs.Baksheesh.{perm_bits}
use Rattle.words.specs.Words.{unpacked}
use Rattle.shares.proofs.Packed.{round-first, round-other}
use Rattle.shares.proofs.lane_round.Goals as goal

pub returns-then-first : goal.returns-then-first
returns-then-first c =
    let k = c.args.k in
    round-first _ _ _ _ _ _ _ (c.perm_bits-s.ensures ∙ ap perm_bits c.sbox_share.ensures) c.if-first.true
    (c.add.ensures ∙ ap (λ (z : List ℕ). z ⊕ unpacked k) c.add_constants.ensures)

pub returns-else-first : goal.returns-else-first
returns-else-first c =
    round-other _ _ _ _ _ _ _ (c.perm_bits-s.ensures ∙ ap perm_bits c.sbox_share.ensures) c.if-first.false c.add-else-first.ensures
