-- Worked values of anti-replay windows, and what opening answers to numbers at their edges. Assumes nothing.
use Rattle.std.specs.Prelude.{Bool, true, List, [], ◌∷◌, map, ℕ, replicate}
use Rattle.blocks.specs.Bytes.{zeros}
use Rattle.answers.specs.Answer.{number_of}
use Rattle.links.specs.Record.{form_of, record_of}
use Rattle.links.specs.declared.Width.{Width}
use Rattle.links.specs.declared.Width.TheVariants.{Narrow, Wide}
use Rattle.window.specs.Window.{empty, after}
use Rattle.window.specs.declared.Window.{Window}
use Rattle.opening.specs.Opener.{Opener}
use Rattle.opening.specs.Open.{open_answer}
use Rattle.values.specs.Row.{Row, ◌is◌}

-- the windows after 1, 3 and 2 were accepted, in this order, and after 66 too
abbrev pub early : Window
early = after (after (after empty 1) 3) 2

abbrev pub later : Window
later = after early 66

-- a window with 4294967297 and 4294967298 accepted
abbrev pub beyond : Window
beyond = record { highest = 4294967298; accepted = 3 }

abbrev pub fields : Window → List ℕ
fields w = w.highest ∷ w.accepted ∷ []

-- what opening knows of link 7, keyed or not, with the window w
abbrev pub opener_with : Bool → Window → Opener
opener_with b w = record { keyed = b; number = 7; window = w; ke = replicate 16 0xaa; km = replicate 16 0xbb }

-- what it answers on such a link of the width v to a record r with room for o bytes, where CMAC uses a function that changes no block
abbrev pub open_number : Width → Opener → List ℕ → ℕ → ℕ
open_number v x r o = number_of (open_answer (form_of v) (λ k b. b) x r o)

-- to one of the width u with an empty message, the number s and a tag of zeros
abbrev pub answered : Width → Window → Width → ℕ → ℕ
answered v w u s = open_number v (opener_with true w) (record_of (form_of u) 7 s [] zeros) 0

abbrev pub window_rows : List Row
window_rows =
    -- the window: shifted by 1, 63 and 64 places
    (fields early is (3 ∷ 7 ∷ []))
    ∷ (fields later is (66 ∷ 0x8000000000000001 ∷ []))
    ∷ (fields (after early 67) is (67 ∷ 1 ∷ []))
    -- 0 and numbers below it are refused under 35, then those in it and accepted under 22; others go on to the tag
    ∷ (map (answered Narrow later Narrow) (0 ∷ 2 ∷ 3 ∷ 4 ∷ 66 ∷ 67 ∷ []) is (35 ∷ 35 ∷ 22 ∷ 9 ∷ 22 ∷ 9 ∷ []))
    ∷ ((answered Narrow (record { highest = 0; accepted = 1 }) Narrow 0 ∷ []) is (35 ∷ []))
    -- so on a wide link, above 4294967295 too; there a narrow record is too short, and a narrow link with such a highest number not keyed
    ∷ (map (answered Wide beyond Wide) (4294967234 ∷ 4294967235 ∷ 4294967297 ∷ 4294967298 ∷ 18446744073709551615 ∷ [])
    is (35 ∷ 9 ∷ 22 ∷ 22 ∷ 9 ∷ []))
    ∷ ((answered Wide beyond Narrow 1 ∷ answered Narrow beyond Narrow 1 ∷ []) is (7 ∷ 20 ∷ []))
    ∷ []
