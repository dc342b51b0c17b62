-- What sealing answers: its inputs are refused, its output is, or the work is done. Assumes nothing.
use Rattle.prelude.proofs.{◌≡◌, sym, subst, List, [], ◌∷◌, ℕ, ◌+◌, ◌≤◌, ◌<◌, arith, length}
use Rattle.answers.specs.Answer.{done, refused, first}
use Rattle.answers.proofs.First.{refused-at, refused-before, tests}
use Rattle.links.specs.{Record.added, Links.sender_form, declared.Form.Form, declared.Sender.Sender}
use Rattle.calls.specs.{Numbered.tape_need, Entry.input_causes, Entry.room_causes, Entry.seal_causes, Entry.seal_answer}
use Rattle.calls.proofs.Accepted.{accepted, accepted-values, sealable-none, passed-sealable}

module _ (x : Sender) (m t : List ℕ) (o : ℕ) where
  pub inputs-refused : {n : ℕ} → refused n ≡ first (input_causes x m t []) (done []) → seal_answer x m t o ≡ refused n
  unfolding seal_answer
  inputs-refused {n} e = refused-before n (input_causes x m t []) (room_causes x m o) [] _ (sym e)

  -- where its inputs pass, with what the form of the link's records adds to the message
  module _ {f : Form} {n : ℕ} (p : done [] ≡ first (input_causes x m t []) (done [])) (ef : f ≡ sender_form x) (en : n ≡ added f) where
    pub room-refused : o < length m + n → seal_answer x m t o ≡ refused 4
    unfolding seal_answer
    room-refused h =
        let l = subst (λ (f : Form). n ≡ added f) ef en in
        refused-at 4 (seal_causes x m t o) _ (sealable-none x m t (passed-sealable x m t (sym p))) (omega (arith, tests))

    pub seal-done : length m + n ≤ o → seal_answer x m t o ≡ done ((length m + n) ∷ tape_need (length m) ∷ [])
    seal-done h =
        let l = subst (λ (f : Form). n ≡ added f) ef en in
        rw l (accepted-values x m t o (accepted x m t o (passed-sealable x m t (sym p)) (omega arith)))
