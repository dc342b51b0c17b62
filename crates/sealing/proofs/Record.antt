-- What the path leaves to write: the tape bytes read, the tag's shares, and the record. Assumes nothing.
use Rattle.prelude.proofs.{◌≡◌, ap, ◌∙◌, subst, List, ℕ, ◌+◌, arith, length, take}
use Rattle.modes.proofs.Ctr.{ctr-same}
use Rattle.links.specs.{Record.record_of, Links.sender_form, declared.Form.Form, declared.Sender.Sender}
use Rattle.masking.specs.Shares.{join, shares_in, flat, Reader}
use Rattle.masking.proofs.Lane.{shares-flat}
use Rattle.shares.specs.Packed.{shares_of}
use Rattle.shares.proofs.Onward.{packed-blocks}
use Rattle.walks.specs.{declared.watch.Watch.Watch, declared.Walk.Walk}
use Rattle.calls.specs.{Numbered.tape_need, Job.ctr_out, Job.crypt, Sealed.sealing, Sealed.tag_shares, Sealed.sealed_record}
use Rattle.inputs.specs.Inputs.{out_at}
use Rattle.path.specs.Path.{SealingDone}
use Rattle.outgoing.specs.Outgoing.{ciphertext_of}

-- the text that was sealed is the message
module _ (x : Sender) {m text : List ℕ} (same : text ≡ m) {M : Reader} {a : Watch} {outs : List (List ℕ)} {w : Walk}
    (A : SealingDone (sealing x text) M a outs w) where
  Done : SealingDone (sealing x m) M a outs w
  Done = subst (λ (m : List ℕ). SealingDone (sealing x m) M a outs w) same A

  pub tape-used : w.tape.used ≡ tape_need (length m)
  tape-used = omega (arith, Done.walked.used)

  pub tag-made : (s : List ℕ) → s ≡ flat (shares_of w.out) → s ≡ flat (tag_shares x m M)
  tag-made s es = es ∙ ap flat Done.tag

  pub record-made : (f : Form) → f ≡ sender_form x → (s : List ℕ) → s ≡ flat (shares_of w.out)
      → record_of f x.number (x.last + 1) (ciphertext_of text outs) (take f.tag (join (shares_in s))) ≡ sealed_record x m M
  unfolding sealed_record crypt
  record-made f ef s es =
      let text = ap (λ (m : List ℕ). ciphertext_of m outs) same
      ∙ ctr-same (λ b. b) (λ b. b) (λ j. join (out_at j outs)) (λ j. join (ctr_out (sealing x m) M j)) m
      (λ j h. ap join (Done.held.hold j h)) in
      let tag = ap join (ap shares_in es ∙ shares-flat (shares_of w.out) (packed-blocks w.out) ∙ Done.tag) in
      λ i. record_of (ef i) x.number (x.last + 1) (text i) (take (ef i).tag (tag i))
