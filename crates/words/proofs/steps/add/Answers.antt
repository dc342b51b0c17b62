-- `add` meets its contract, word by word. Assumes nothing.
use Rattle.prelude.proofs.{sym, ◌∙◌}
use Rattle.bits.proofs.Laws.{bit-xor}
use Rattle.words.proofs.Words.{words, packed-xor}
use Rattle.words.proofs.steps.add.Goals as goal

pub returns : goal.returns
returns c =
    words _ _ _ _ _ (λ i h. simp bit-xor) (λ i h. simp bit-xor) (λ i h. simp bit-xor) (λ i h. simp bit-xor)
    ∙ sym (packed-xor c.args.s c.args.t)
