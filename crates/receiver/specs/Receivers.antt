-- The receiving link as keying and opening leave it, and what opening knows of it. Assumes nothing.
use Rattle.std.specs.Prelude.{false, List, ℕ, replicate}
use Rattle.links.specs.Record.{form_of}
use Rattle.links.specs.declared.Form.{Form}
use Rattle.links.specs.declared.Width.{Width}
use Rattle.links.specs.declared.Width.TheVariants.{Narrow}
use Rattle.window.specs.Window.{empty}
use Rattle.opening.specs.Opener.{Opener, keyed_opener, accepting}
use Rattle.opening.specs.Open.{open_link}
use Rattle.receiver.specs.declared.Receiver.{Receiver}

-- what opening knows of the link, and the link of the width w of which it knows x
abbrev pub opener_of : Receiver → Opener
opener_of x = record { keyed = x.keyed; number = x.number; window = x.window; ke = x.ke; km = x.km }

abbrev pub receiver_as : Width → Opener → Receiver
receiver_as w x = record { keyed = x.keyed; number = x.number; window = x.window; width = w; ke = x.ke; km = x.km }

-- the form of its records
abbrev pub receiver_form : Receiver → Form
receiver_form x = form_of x.width

-- a fresh link is all zeros and not keyed
abbrev pub fresh_receiver : Receiver
fresh_receiver = record { keyed = false; number = 0; window = empty; width = Narrow; ke = replicate 16 0; km = replicate 16 0 }

-- the link number n of the width w, keyed with the given bytes
abbrev pub receiver_of : ℕ → Width → List ℕ → Receiver
receiver_of n w keys = receiver_as w (keyed_opener n keys)

-- the link with the sequence number s accepted, and as opening the record r with room for o bytes leaves it
abbrev pub receiver_after : Receiver → ℕ → Receiver
receiver_after x s = receiver_as x.width (accepting (opener_of x) s)

abbrev pub opened_receiver : (List ℕ → List ℕ → List ℕ) → Receiver → List ℕ → ℕ → Receiver
opened_receiver C x r o = receiver_as x.width (open_link (receiver_form x) C (opener_of x) r o)
