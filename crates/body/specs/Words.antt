-- A body's words, of 32 bits: a word's top four bits are its kind, the other 28 its field. Assumes nothing.
use Rattle.std.specs.Prelude.{Bool, false, not, cond, ◌&&◌, ◌||◌, List, [], ◌∷◌, ◌++◌, ℕ, ◌*◌, ◌/◌, ◌%◌, ◌^◌, ◌≤◌, eqb, leb, ℤ, pos, negsuc, length}
use Rattle.std.specs.Int.Signed.{le_z}
use Rattle.blocks.specs.Bytes.{value, part, tab}
use Rattle.body.specs.Signed.{signed}

-- how many numbers a field holds
abbrev pub fields : ℕ
fields = 2 ^ 28

abbrev pub kind : ℕ → ℕ
kind w = w / fields

abbrev pub field : ℕ → ℕ
field w = w % fields

-- the words of a body, four bytes each
abbrev pub words : List ℕ → List ℕ
words b = tab (length b / 4) (λ i. value (part (4 * i) 4 b))

-- the first word of kind k, or 0 where there is none: no word of a kind above 0 is 0
abbrev pub word_of : ℕ → List ℕ → ℕ
word_of k [] = 0
word_of k (w ∷ ws) = cond (eqb (kind w) k) w (word_of k ws)

abbrev pub has : ℕ → List ℕ → Bool
has k ws = not (eqb (word_of k ws) 0)

-- the local offset in minutes that a field says, and whether it is in its range, -720 to 840
abbrev pub minutes : ℕ → ℤ
minutes f = signed fields f

abbrev pub offset_in_range : ℤ → Bool
offset_in_range z = le_z (negsuc 719) z && le_z z (pos 840)

-- a word is bad: of kind 0; of a kind 1 to 4 that was seen before; of kind 4, with an offset out of its range
abbrev pub bad : Bool → ℕ → Bool
bad seen w = eqb (kind w) 0 || ((leb (kind w) 4 && seen) || (eqb (kind w) 4 && not (offset_in_range (minutes (field w)))))

-- whether one of the words is bad, behind those before them
abbrev pub any_bad : List ℕ → List ℕ → Bool
any_bad before [] = false
any_bad before (w ∷ ws) = bad (has (kind w) before) w || any_bad (before ++ (w ∷ [])) ws

-- ---- of a list of words

-- those that reading does not skip
abbrev pub unskipped : List ℕ → List ℕ
unskipped [] = []
unskipped (w ∷ ws) = cond (leb (kind w) 4) (w ∷ unskipped ws) (unskipped ws)

-- their kinds are k to 4, so that none is skipped, and never fall
abbrev pub InOrder : ℕ → List ℕ → Type 0
InOrder k [] = Unit {0}
InOrder k (w ∷ ws) = (k ≤ kind w) × ((kind w ≤ 4) × InOrder (kind w) ws)
