-- What keying answers, and the sending link as keying leaves it. Assumes nothing.
use Rattle.std.specs.Prelude.{true, false, not, List, [], ◌∷◌, ℕ, eqb, length, replicate, Result}
use Rattle.blocks.specs.Bytes.{part}
use Rattle.answers.specs.Answer.{Answer, done, Cause, ◌when◌, first, said}
use Rattle.links.specs.Record.{form_of}
use Rattle.links.specs.declared.Form.{Form}
use Rattle.links.specs.declared.Width.{Width}
use Rattle.links.specs.declared.Width.TheVariants.{Narrow}
use Rattle.links.specs.declared.Sender.{Sender}
use Rattle.links.specs.declared.KeyRefusal.{KeyRefusal}
use Rattle.links.specs.declared.KeyRefusal.TheVariants.{BadKeys}

-- the bytes of key material: three shares of KE, then of KM
abbrev pub sender_keys : ℕ
sender_keys = 96

-- the number of a refusal; what keying says, whatever it returns
abbrev pub key_number : KeyRefusal → ℕ
key_number BadKeys = 1

abbrev pub key_says : {A : Type 0} → Result A KeyRefusal → Answer
key_says = said (λ _. []) key_number

-- keying with the given bytes a link that takes n of them
abbrev pub key_causes : ℕ → List ℕ → List Cause
key_causes n keys = (1 when not (eqb (length keys) n)) ∷ []

unfoldable pub key_answer : ℕ → List ℕ → Answer
key_answer n keys = first (key_causes n keys) (done [])

-- a fresh link is all zeros and not keyed
abbrev pub fresh_sender : Sender
fresh_sender = record { keyed = false; number = 0; last = 0; width = Narrow; ke = replicate 48 0; km = replicate 48 0 }

-- the link number n of the width w, keyed with the given bytes
abbrev pub sender_of : ℕ → Width → List ℕ → Sender
sender_of n w keys = record { keyed = true; number = n; last = 0; width = w; ke = part 0 48 keys; km = part 48 48 keys }

-- the form of its records
abbrev pub sender_form : Sender → Form
sender_form x = form_of x.width
