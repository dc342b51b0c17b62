-- The record that sealing makes, of any form and over any block functions E and D: CTR under E, CMAC under D. Assumes nothing.
use Rattle.std.specs.Prelude.{List, ◌++◌, ℕ, take}
use Rattle.modes.specs.Ctr.{ctr}
use Rattle.modes.specs.Cmac.{cmac}
use Rattle.links.specs.Record.{counter_block, record_of}
use Rattle.links.specs.declared.Form.{Form}

-- under the link number n and the sequence number s: the ciphertext of a message, and the message of a ciphertext
abbrev pub crypted : (List ℕ → List ℕ) → ℕ → ℕ → List ℕ → List ℕ
crypted E n s m = ctr E (counter_block n s) m

-- what is authenticated of a ciphertext, its code, and its tag: the code's first bytes
abbrev pub authenticated : ℕ → ℕ → List ℕ → List ℕ
authenticated n s text = counter_block n s 0 ++ text

abbrev pub mac_of : (List ℕ → List ℕ) → ℕ → ℕ → List ℕ → List ℕ
mac_of D n s text = cmac D (authenticated n s text)

abbrev pub tag_of : Form → (List ℕ → List ℕ) → ℕ → ℕ → List ℕ → List ℕ
tag_of f D n s text = take f.tag (mac_of D n s text)

unfoldable pub plain_record : Form → (List ℕ → List ℕ) → (List ℕ → List ℕ) → ℕ → ℕ → List ℕ → List ℕ
plain_record f E D n s m = record_of f n s (crypted E n s m) (tag_of f D n s (crypted E n s m))
