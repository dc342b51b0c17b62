-- When opening is done: no cause of a refusal applies. Assumes nothing.
use Rattle.prelude.proofs.{◌≡◌, ap, ◌∙◌, not, List, [], ◌∷◌, ℕ, ◌≤◌, ltb-false, not-false, le-ltb}
use Rattle.blocks.specs.Bytes.{same_bytes}
use Rattle.blocks.proofs.Same.{same_true, same_refl}
use Rattle.answers.specs.Answer.{done, Accepts, NoneOf}
use Rattle.answers.proofs.First.{done_none, accepts-none}
use Rattle.links.specs.{Record.sequence_in, Record.tag_in, declared.Form.Form}
use Rattle.window.specs.Window.{Admitted}
use Rattle.window.proofs.Admits.{passes-admitted, admitted-passes}
use Rattle.readable.proofs.Readable.{readable-none, none-readable}
use Rattle.opening.specs.Opener.{Opener}
use Rattle.opening.specs.Open.{message_size, ReadableOn, right_tag, read_causes, open_causes, open_answer}

-- what opening asks of the record r on the link x, with room for o bytes
pub record Openable (f : Form) (C : List ℕ → List ℕ → List ℕ) (x : Opener) (r : List ℕ) (o : ℕ) : Type 0 where
  pub readable : ReadableOn f x r
  pub room : message_size f r ≤ o
  pub admitted : Admitted x.window (sequence_in f r)
  pub tagged : right_tag f C x r ≡ tag_in f r

module _ (f : Form) (C : List ℕ → List ℕ → List ℕ) (x : Opener) (r : List ℕ) (o : ℕ) where
  pub openable-none : Openable f C x r o → NoneOf (open_causes f C x r o)
  openable-none O =
      let room = le-ltb o (message_size f r) O.room in
      let new = admitted-passes x.window (sequence_in f r) O.admitted in
      let same = ap (λ (t : List ℕ). not (same_bytes t (tag_in f r))) O.tagged ∙ ap not (same_refl (tag_in f r)) in
      readable-none f _ _ _ r O.readable (read_causes f C x r o) (room, (new.0, (new.1, (cc, tt))))

  pub none-openable : NoneOf (open_causes f C x r o) → Openable f C x r o
  none-openable h = openable (none-readable f _ _ _ r (read_causes f C x r o) h)
    where
      openable : ReadableOn f x r × NoneOf (read_causes f C x r o) → Openable f C x r o
      openable (readable, (room, (covered, (new, (tagged, _))))) = record {
        readable = readable;
        room = ltb-false o (message_size f r) room;
        admitted = passes-admitted x.window (sequence_in f r) covered new;
        tagged = same_true (right_tag f C x r) (tag_in f r) (not-false (same_bytes (right_tag f C x r) (tag_in f r)) tagged);
      }

  -- by the answer
  pub openable-done : Openable f C x r o → open_answer f C x r o ≡ done (message_size f r ∷ [])
  unfolding open_answer
  openable-done O = done_none (open_causes f C x r o) _ (openable-none O)

  pub accepted-openable : Accepts (open_answer f C x r o) → Openable f C x r o
  unfolding open_answer
  accepted-openable a = none-openable (accepts-none (open_causes f C x r o) _ tt a)

  pub accepted-done : Accepts (open_answer f C x r o) → open_answer f C x r o ≡ done (message_size f r ∷ [])
  accepted-done a = openable-done (accepted-openable a)
