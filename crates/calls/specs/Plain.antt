-- The calls of a job on plain blocks, under whole keys: the state and the round key that the plain cipher has in each. Assumes nothing.
use Rattle.std.specs.Prelude.{cond, List, ℕ, ◌-◌, min, eqb, length}
use Rattle.blocks.specs.Bytes.{◌⊕◌, zeros, block_count, piece}
use Rattle.baksheesh.specs.Baksheesh.{rounds, after, rotated, encrypt}
use Rattle.modes.specs.Cmac.{chain, last_block}
use Rattle.links.specs.Record.{counter_block}
use Rattle.plain.specs.Plain.{authenticated}
use Rattle.calls.specs.Numbered.{Call, ctr, sub, mac, of_key}

-- under the keys ke and km, the link number n and the sequence number s, of the ciphertext `text`
module _ (ke km : List ℕ) (n s : ℕ) (text : List ℕ) where
  -- what CMAC is taken of
  abbrev whole : List ℕ
  whole = authenticated n s text

  -- the input of each call
  unfoldable pub plain_input : Call → List ℕ
  plain_input (ctr j) = counter_block n s j
  plain_input sub = zeros
  plain_input (mac j) =
      chain (encrypt km) zeros whole j ⊕ cond (eqb j (block_count (length text))) (last_block (encrypt km) (piece j whole)) (piece j whole)

  -- its state on entering round r, from 1; behind the last round, the output
  unfoldable pub plain_state : Call → ℕ → List ℕ
  plain_state c r = after (r - 1) (of_key ke km c) (plain_input c ⊕ of_key ke km c)

  -- the block that it makes
  abbrev pub plain_output : Call → List ℕ
  plain_output c = encrypt (of_key ke km c) (plain_input c)

-- the key that is added at the end of round r of a call; behind the last round, that round's again
unfoldable pub plain_key : List ℕ → List ℕ → Call → ℕ → List ℕ
plain_key ke km c r = rotated (min r rounds) (of_key ke km c)
