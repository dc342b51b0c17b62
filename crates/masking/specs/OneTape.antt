-- The words of the statements on lanes: what a round makes of one, which bytes of a tape may be others, and that
-- exactly one tape shows the same. Assumes nothing.
use Rattle.std.specs.Prelude.{◌≡◌, Bool, List, ◌⊎◌, ℕ, ◌+◌, ◌≤◌, ◌<◌, length, get_or}
use Rattle.blocks.specs.Bytes.{Bytes, part}
use Rattle.masking.specs.Shares.{Index, i₀, i₁, i₂, pair_size}
use Rattle.masking.specs.Call.{lane_round}

-- what round n + 1 makes of a share, the first one or another, from the 48 bytes of its lane alone
abbrev pub round_on_lane : ℕ → Bool → List ℕ → List ℕ
round_on_lane n first l = lane_round n first (part 0 16 l) (part 16 16 l) (part 32 16 l)

-- one thing has P, and whatever has P is that thing
pub record ExactlyOne {A : Type 0} (P : A → Type 0) : Type 0 where
  pub one : A
  pub holds : P one
  pub only_one : (a : A) → P a → a ≡ one

-- place j of a tape is none of the w places from p on
abbrev pub Outside : ℕ → ℕ → ℕ → Type 0
Outside p w j = (j < p) ⊎ (p + w ≤ j)

-- two tapes have the same byte at each place, but for the key mask that stands at a and the pair of masks that stands at o;
-- they may differ there, and need not
abbrev pub Alike : ℕ → ℕ → List ℕ → List ℕ → Type 0
Alike a o t u = (j : ℕ) → Outside a 16 j → Outside o pair_size j → get_or t j 0 ≡ get_or u j 0

-- where lane i's key mask bytes stand, the masks c, d of its key standing at a: d for lane 1, else c
abbrev pub lane_mask : ℕ → Index → ℕ
lane_mask a i₀ = a
lane_mask a i₁ = a + 16
lane_mask a i₂ = a

-- w is a tape of bytes, as long as t, alike but for the key mask at a and the pair at o; it is accepted, and what is shown with it is
-- what was seen
pub record Shows (a o : ℕ) (t seen : List ℕ) (accepts : List ℕ → Type 0) (shown : List ℕ → List ℕ) (w : List ℕ) : Type 0 where
  pub as_long : length w ≡ length t
  pub all-bytes : Bytes w
  pub elsewhere : Alike a o w t
  pub accepted : accepts w
  pub same : shown w ≡ seen

-- every tape is
abbrev pub every : List ℕ → Type 0
every w = Unit {0}
