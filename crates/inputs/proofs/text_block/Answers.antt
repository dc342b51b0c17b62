-- `text_block` meets its contract: the output shares, cut, with the message block in share 0. Assumes nothing.
use Rattle.prelude.proofs.{◌≡◌, sym, ap, ap₂, ◌∙◌, List, ℕ, length, rules}
use Rattle.blocks.specs.Bytes.{piece}
use Rattle.modes.proofs.Pieces.{piece-length}
use Rattle.masking.specs.Shares.{add, each, only, shares_in}
use Rattle.masking.proofs.{Lane.three_back, Shape.shares-same}
use Rattle.shares.specs.Packed.{shares_of}
use Rattle.calls.specs.Sealed.{cut}
use Rattle.inputs.specs.Inputs.{out_at}
use Rattle.inputs.proofs.text_block.Goals as goal

pub returns : goal.returns
returns c =
    let a = c.args in
    let size : c.width-n.result ≡ length (piece a.j a.message.now) =
    c.width-n.ensures
    ∙ sym (piece-length a.j c.message.inside.bytes.now)
    ∙ ap (λ (m : List ℕ). length (piece a.j m)) c.message.view_is in
    -- the output shares, cut to the block's bytes
    let outputs : shares_of c.pack_shares-outputs.result ≡ each (cut (length (piece a.j a.message.now))) (out_at a.j a.outs.now) =
    c.pack_shares-outputs.ensures
    ∙ ap shares_in c.three_blocks.ensures
    ∙ three_back _ _ _ (search rules) (search rules) (search rules)
    ∙ shares-same c.cut_share.ensures c.cut_share-2.ensures c.cut_share-3.ensures
    ∙ ap (λ (n : ℕ). each (cut n) (out_at a.j a.outs.now)) size in
    c.add_shares.ensures ∙ ap₂ add outputs (c.only.ensures ∙ ap only (c.pack.ensures ∙ c.completed_at.ensures))
