-- Reading and writing: each refusal number has exactly its cause, a refusal changes nothing, and what is accepted changes nothing past
-- its result. Assumes nothing.
use Rattle.prelude.proofs.{◌≡◌, refl, sym, ◌↔◌, List, [], ◌∷◌, ℕ, ltb, length, ltb-false}
use Rattle.answers.specs.Answer.{refused, Accepts, ◌when◌, FirstOf, Kept}
use Rattle.answers.proofs.{First.refused-exactly, First.if-refused, First.accepts-none, First.done_none, First.none-parts}
use Rattle.answers.proofs.Output.{output-kept}
use Rattle.body.specs.Entry.{read_causes, read_answer, values_causes, values_answer, values_output, write_causes, write_answer, write_output}
use Rattle.body.specs.{Words.words, Mark.mark_in, Mark.written, Mark.values, declared.Mark.Mark}
use Rattle.body.proofs.Writing.{values_length}

pub read-refused-exactly : (b : List ℕ) (n : ℕ) → read_answer b ≡ refused n ↔ FirstOf n (read_causes b)
unfolding read_answer
read-refused-exactly b n = refused-exactly n (read_causes b) _

pub values-refused-exactly : (b : List ℕ) (o n : ℕ) → values_answer b o ≡ refused n ↔ FirstOf n (values_causes b o)
unfolding values_answer
values-refused-exactly b o n = refused-exactly n (values_causes b o) _

pub write-refused-exactly : (m : Mark) (o n : ℕ) → write_answer m o ≡ refused n ↔ FirstOf n (write_causes m o)
unfolding write_answer
write-refused-exactly m o n = refused-exactly n (write_causes m o) _

pub unread-unchanged : (b o : List ℕ) (n : ℕ) → values_answer b (length o) ≡ refused n → values_output b o ≡ o
unread-unchanged b o n e = sym (if-refused e _ _)

pub unwritten-unchanged : (m : Mark) (o : List ℕ) (n : ℕ) → write_answer m (length o) ≡ refused n → write_output m o ≡ o
unwritten-unchanged m o n e = sym (if-refused e _ _)

-- ---- an accepted reading changes only the first 17 bytes of its output, an accepted writing only those of the body

pub values-kept : (b o : List ℕ) → Accepts (values_answer b (length o)) → Kept 17 o (values_output b o)
unfolding values_answer
values-kept b o a =
    let none = accepts-none (values_causes b (length o)) [] tt a in
    output-kept (done_none (values_causes b (length o)) _ none) (values (mark_in (words b))) o 17 (values_length (mark_in (words b)))
    (ltb-false (length o) 17 (none-parts (read_causes b) ((4 when ltb (length o) 17) ∷ []) none).1.0)

pub written-kept : (m : Mark) (o : List ℕ) → Accepts (write_answer m (length o)) → Kept (length (written m)) o (write_output m o)
unfolding write_answer
written-kept m o a =
    let none = accepts-none (write_causes m (length o)) _ tt a in
    output-kept (done_none (write_causes m (length o)) _ none) (written m) o _ refl (ltb-false (length o) (length (written m)) none.1.0)
