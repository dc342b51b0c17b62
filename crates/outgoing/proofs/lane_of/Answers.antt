-- `lane_of` meets its contract: two shares of the state and one of the key, one behind the other. Assumes nothing.
use Rattle.prelude.proofs.{◌≡◌, ap, ◌∙◌, List, ◌++◌, ℕ, ◌+◌, ◌*◌, ◌%◌, ◌<◌, arith}
use Rattle.blocks.specs.Bytes.{part}
use Rattle.masking.specs.Shares.{index_of, flat}
use Rattle.masking.proofs.Lane.{index-next, index-after, part-flat}
use Rattle.shares.specs.{declared.Triple.Triple, Packed.shares_of}
use Rattle.shares.proofs.Onward.{packed-blocks}
use Rattle.outgoing.proofs.lane_of.Goals as goal

-- share k of the shares t, whose bytes are b
share : (t : Triple) {b s : List ℕ} → b ≡ flat (shares_of t) → (k : ℕ) → k < 3 → s ≡ part (16 * k) 16 b → s ≡ shares_of t (index_of k)
share t e k l h = h ∙ ap (part (16 * k) 16) e ∙ part-flat (shares_of t) (packed-blocks t) k l

pub returns : goal.returns
returns c =
    let a = c.args in
    let i = a.i in
    let s = a.seen.state in
    let bytes = c.unpack_shares-states.ensures in
    let next = share s bytes ((i + 1) % 3) (omega arith) c.bytes_at.ensures ∙ ap (shares_of s) (index-next i (omega arith)) in
    let after = share s bytes ((i + 2) % 3) (omega arith) c.bytes_at-2.ensures ∙ ap (shares_of s) (index-after i (omega arith)) in
    let key = share a.seen.key c.unpack_shares-keys.ensures i (omega arith) c.bytes_at-3.ensures in
    c.three_blocks.ensures ∙ λ j. next j ++ (after j ++ key j)
