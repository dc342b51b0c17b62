-- `put_bytes` meets its contract. Assumes nothing.
use Rattle.prelude.proofs.{◌≡◌, ap, List, ℕ, ◌++◌, ◌+◌, ◌-◌, length, take, arith}
use Rattle.std.proofs.lemmas.List.{drop-drop}
use Rattle.blocks.specs.Bytes.{put}
use Rattle.blocks.proofs.put_bytes.Goals as goal

pub returns : goal.returns
unfolding put
returns c =
    let a = c.args in
    let n : a.at + length a.src.now - a.at ≡ length a.src.now = omega arith in
    rw (c.copy_from_slice.ensures.after, n)
    (ap (λ (rest : List ℕ). take a.at a.out.now ++ (a.src.now ++ rest)) (drop-drop (length a.src.now) a.at a.out.now))
