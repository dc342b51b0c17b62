-- BAKSHEESH on three shares. Assumes nothing.
use Rattle.std.specs.Prelude.{Bool, cond, List, ℕ, suc, min}
use Rattle.blocks.specs.Bytes.{◌⊕◌, zeros}
use Rattle.baksheesh.specs.Baksheesh.{rounds, perm_bits, constant, rotated, round}
use Rattle.masking.specs.Shares.{Shares, add, each, only}
use Rattle.masking.specs.Sbox.{sbox_form, form_share, form_shares}
use Rattle.masking.specs.Stages.{Stages, PlainStages, pairs, masks_size}

-- what round n + 1 makes of three masked shares under the round key's shares: the shared S-box, the bit move on each share, the
-- constants into share 0, the key's shares into theirs
abbrev pub share_round : ℕ → Shares → Shares → Shares
share_round n s k = add (add (each perm_bits (form_shares sbox_form s)) (only (constant n))) k

-- what it makes of one share, the first one or another, from its lane alone: the next two shares a and b, and the round key's share k
unfoldable pub lane_round : ℕ → Bool → List ℕ → List ℕ → List ℕ → List ℕ
lane_round n first a b k = (perm_bits (form_share sbox_form first a b) ⊕ cond first (constant n) zeros) ⊕ k

-- the key's shares go into the input's; each stage is a round. A pair shows the key of the round behind it, the last one that of the
-- last round
abbrev pub encryption : Stages
encryption = record {
  start = λ key input. add input key;
  stage = λ n key s. share_round n s (each (rotated (suc n)) key);
  count = rounds;
  shown_key = λ n. rotated (min (suc n) rounds);
}

-- the pairs of masks of a call, and their bytes
abbrev pub pair_count : ℕ
pair_count = pairs encryption

abbrev pub call_size : ℕ
call_size = masks_size encryption

-- the plain cipher, likewise
abbrev pub plain_encryption : PlainStages
plain_encryption = record {
  start = λ key input. input ⊕ key;
  stage = λ n key s. round n (rotated (suc n) key) s;
}
