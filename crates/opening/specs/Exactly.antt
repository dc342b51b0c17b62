-- The words of the statement that opening accepts exactly the records that sealing makes: of any form, under any cipher C.
-- Assumes nothing.
use Rattle.std.specs.Prelude.{◌≡◌, List, [], ◌∷◌, ℕ, ◌^◌, ◌≤◌, ◌<◌, length}
use Rattle.blocks.specs.Bytes.{Bytes, Block, put}
use Rattle.answers.specs.Answer.{done}
use Rattle.links.specs.Record.{number_size, longest}
use Rattle.links.specs.declared.Form.{Form}
use Rattle.plain.specs.Plain.{plain_record}
use Rattle.window.specs.Window.{Admitted}
use Rattle.opening.specs.Opener.{Opener}
use Rattle.opening.specs.Open.{open_answer, open_link, open_output}

-- what the fields of a receiving link can hold
pub record Formed (x : Opener) : Type 0 where
  pub number : x.number < 256 ^ number_size
  pub ke : Block x.ke
  pub km : Block x.km

module _ (f : Form) (C : List ℕ → List ℕ → List ℕ) where
  -- what an accepted opening of the record r on the link x, with the output o, returns and leaves: the length of the message m, that
  -- message in the output, and the link y
  pub record Opens (x : Opener) (r o m : List ℕ) (y : Opener) : Type 0 where
    pub answer : open_answer f C x r (length o) ≡ done (length m ∷ [])
    pub link : open_link f C x r (length o) ≡ y
    pub out : open_output f C x r o ≡ put 0 m o

  -- r is the record that sealing makes of the message m for the link x with the number s, which its window admits
  pub record Sealed (x : Opener) (r m : List ℕ) (s : ℕ) : Type 0 where
    pub size : length m ≤ longest
    pub bytes : Bytes m
    pub admitted : Admitted x.window s
    pub fits : s < 256 ^ f.sequence
    pub made : r ≡ plain_record f (C x.ke) (C x.km) x.number s m
