-- Three shares in packed form, and what the rounds on them do. Assumes nothing.
use Rattle.std.specs.Prelude.{◌≡◌, ℕ, zero, suc, ◌+◌, ◌-◌, ◌*◌}
use Rattle.baksheesh.specs.Baksheesh.{rotated}
use Rattle.words.specs.Words.{unpacked}
use Rattle.shares.specs.declared.Triple.{Triple}
use Rattle.shares.specs.declared.Seen.{Seen}
use Rattle.shares.specs.declared.Called.{Called}
use Rattle.masking.specs.Shares.{Shares, three, add, each, Reader, pair_size, masks_at}
use Rattle.masking.specs.Stages.{call, masked, shown_shares}
use Rattle.masking.specs.Call.{share_round, encryption}

-- the shares that three packed blocks say
abbrev pub shares_of : Triple → Shares
shares_of s = three (unpacked s.a) (unpacked s.b) (unpacked s.c)

-- ---- some rounds, from the masked shares s before round n + 1 and the key's shares k as round n added them; masks from o on

module _ (M : Reader) (o n : ℕ) (s k : Shares) where
  -- the shares c rounds later, with the masks behind the last of them
  unfoldable pub onward : ℕ → Shares
  onward zero = s
  onward (suc c) = add (share_round (n + c) (onward c) (each (rotated (suc c)) k)) (masks_at M (o + pair_size * c))

  -- r is where c rounds lead
  pub record Onward (c : ℕ) (r : Seen) : Type 0 where
    pub state : shares_of r.state ≡ onward c
    pub key : shares_of r.key ≡ each (rotated c) k

-- ---- r is a whole call of key shares k and input shares x: its output, and what its pair numbered n shows

pub record CallDone (k x : Shares) (M : Reader) (o n : ℕ) (r : Called) : Type 0 where
  pub out : shares_of r.out ≡ call encryption k x M o
  pub state : shares_of r.seen.state ≡ masked encryption k x M o (n - 1)
  pub key : shares_of r.seen.key ≡ shown_shares encryption k x M o (n - 1)
