-- `joined` meets its contract, byte by byte. Assumes nothing.
use Rattle.prelude.proofs.{◌≡◌, sym, ◌∙◌, ◌+◌, bit_xor, get_or, length, rules}
use Rattle.blocks.proofs.{Arrays.tab-from_fn, ByBytes.tab-known}
use Rattle.outgoing.proofs.Stream.{join-length, join-at}
use Rattle.outgoing.proofs.joined.Goals as goal

pub returns : goal.returns
returns c =
    let b = c.args.b in
    let s : length b ≡ 48 = search rules in
    tab-from_fn _ _ (λ i. bit_xor (get_or b i 0) (bit_xor (get_or b (16 + i) 0) (get_or b (32 + i) 0))) (λ i y q e. search rules) 16
    c.from_fn.result c.from_fn.ensures.items
    ∙ tab-known _ _ (join-length b s) (λ i h. sym (join-at b i s h))
