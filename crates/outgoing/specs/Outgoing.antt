-- What leaves the shares: the ciphertext, and a lane. Assumes nothing.
use Rattle.std.specs.Prelude.{List, ◌++◌, ℕ}
use Rattle.modes.specs.Ctr as Ctr
use Rattle.masking.specs.Shares.{Index, next, join}
use Rattle.shares.specs.declared.Seen.{Seen}
use Rattle.shares.specs.Packed.{shares_of}
use Rattle.inputs.specs.Inputs.{out_at}

-- the message under CTR, whose output blocks are the joined output shares in o
abbrev pub ciphertext_of : List ℕ → List (List ℕ) → List ℕ
ciphertext_of m o = Ctr.ctr (λ b. b) (λ j. join (out_at j o)) m

-- lane i of what a pair of masks shows
abbrev pub lane_in : Seen → Index → List ℕ
lane_in s i = shares_of s.state (next i) ++ (shares_of s.state (next (next i)) ++ shares_of s.key i)
