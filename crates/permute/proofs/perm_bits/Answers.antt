-- `perm_bits` meets its contract: one test of where each bit comes from. Assumes nothing.
use Rattle.prelude.proofs.{◌∙◌, List, [], ◌∷◌, ℕ, ◌-◌, ◌*◌, ◌/◌, ◌%◌, ◌^◌, get_or, arith, rules}
use Rattle.blocks.proofs.Arrays.{tab-from_fn}
use Rattle.baksheesh.specs.Baksheesh.{from}
use Rattle.permute.specs.InWord.{from_in_word}
use Rattle.permute.proofs.Moved.{tab-words}
use Rattle.permute.proofs.perm_bits.Goals as goal

pub returns : goal.returns
returns c =
    let w : List ℕ =
    c.move_word.result ∷ c.move_word-2.result ∷ c.move_word-3.result ∷ c.move_word-4.result ∷ [] in
    tab-from_fn _ _ (λ k. get_or w (k % 4) 0 / 2 ^ (8 * (3 - k / 4)) % 256) (λ k y q e. search rules) 16 c.from_fn.result c.from_fn.ensures.items
    ∙ tab-words c.args.s (λ j. 4 * j) 1 from_in_word (λ k. k % 4) (λ k. 8 * (3 - k / 4)) from _ _ _ _ _ _ _ _
    c.word.ensures c.word-2.ensures c.word-3.ensures c.word-4.ensures
    c.move_word.ensures c.move_word-2.ensures c.move_word-3.ensures c.move_word-4.ensures
    tt (λ k h. omega arith) (λ k. omega arith) tt tt
