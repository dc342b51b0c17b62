-- `word_at` meets its contract: four bytes say a number below 2 ^ 32. Assumes nothing.
use Rattle.prelude.proofs.{sym, subst, ℕ, ◌^◌, ◌<◌, rules}
use Rattle.blocks.proofs.Numbers.{part-lt}
use Rattle.blocks.proofs.word_at.Goals as goal

pub overflow_cast-result : goal.overflow_cast-result
overflow_cast-result c =
    let a = c.args in
    record {
      fits = subst (λ (n : ℕ). n < 256 ^ 4) (sym c.number_at.ensures)
          (part-lt a.at 4 a.s.now (λ j. (c.type_inv.s j).fits) (search rules));
    }
