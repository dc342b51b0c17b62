-- What the calls on a receiving link answer and leave in its bytes. Assumes nothing.
use Rattle.std.specs.Prelude.{List, ℕ}
use Rattle.answers.specs.Answer.{Answer, if_done}
use Rattle.baksheesh.specs.Baksheesh.{encrypt}
use Rattle.links.specs.Record.{told, sequence_in}
use Rattle.layout.specs.Keying.{keying_answer}
use Rattle.opening.specs.Opener.{receiver_keys}
use Rattle.opening.specs.Open.{open_answer, open_output}
use Rattle.receiver.specs.Receivers.{opener_of, receiver_form, receiver_of, receiver_after}
use Rattle.receiving.specs.Stored.{receiver_size, receiver_in, receiver_bytes}

-- ---- keying, and the link's bytes at the end

abbrev pub receiver_keying : List ℕ → List ℕ → Answer
receiver_keying = keying_answer receiver_size receiver_keys

abbrev pub keyed_receiver : List ℕ → ℕ → ℕ → List ℕ → List ℕ
keyed_receiver link number wide keys = if_done (receiver_keying link keys) (receiver_bytes (receiver_of number (told wide) keys)) link

-- ---- opening the record r with room for o bytes: the answer, the link's bytes and the output at the end

abbrev pub opened_answer : List ℕ → List ℕ → ℕ → Answer
opened_answer link r o = let x = receiver_in link in open_answer (receiver_form x) encrypt (opener_of x) r o

abbrev pub opened_link : List ℕ → List ℕ → ℕ → List ℕ
opened_link link r o =
    let x = receiver_in link in if_done (opened_answer link r o) (receiver_bytes (receiver_after x (sequence_in (receiver_form x) r))) link

abbrev pub opened_output : List ℕ → List ℕ → List ℕ → List ℕ
opened_output link r o = let x = receiver_in link in open_output (receiver_form x) encrypt (opener_of x) r o
