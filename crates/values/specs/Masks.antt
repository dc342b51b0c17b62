-- Worked values of a tape's masks, of key shares and lanes with them, and of what the calls of a sealing take in: bytes that differ from
-- each other, so that each share has its own. Assumes nothing.
use Rattle.std.specs.Prelude.{true, List, [], ◌∷◌, ◌++◌, map, ℕ, ◌+◌, ◌-◌, ◌*◌}
use Rattle.blocks.specs.Bytes.{big_endian, tab}
use Rattle.links.specs.declared.Sender.{Sender}
use Rattle.links.specs.declared.Width.TheVariants.{Narrow}
use Rattle.masking.specs.Shares.{Index, i₀, i₁, i₂, Shares, three, flat, Reader, at, masks_at}
use Rattle.masking.specs.Call.{encryption, pair_count, call_size}
use Rattle.runs.specs.Run.{Run, key_shares, lane_of}
use Rattle.runs.specs.Reported.{pair_at, key_mask_at}
use Rattle.calls.specs.Numbered.{tape_need}
use Rattle.calls.specs.Sealed.{sealing_calls}
use Rattle.values.specs.Row.{Row, ◌is◌}

-- three shares, one behind the other, each of them as one number
abbrev pub of_shares : ℕ → ℕ → ℕ → List ℕ
of_shares a b c = big_endian 16 a ++ (big_endian 16 b ++ big_endian 16 c)

-- a tape whose bytes are their own places
abbrev pub counted : Reader
counted = at (tab 128 (λ j. j))

-- a link with 4 for its last number, and a message of m bytes for it
abbrev pub sample_sender : Sender
sample_sender = record {
  keyed = true;
  number = 0x01020304;
  last = 4;
  width = Narrow;
  ke = tab 48 (λ j. 3 * j + 1);
  km = tab 48 (λ j. 255 - 2 * j);
}

abbrev pub sample_message : ℕ → List ℕ
sample_message m = tab m (λ j. 192 + j)

-- the calls of sealing m bytes on it
abbrev pub sample_calls : ℕ → Run
sample_calls m = sealing_calls sample_sender (sample_message m)

-- the key shares of call k of sealing a block on it, and lane i of the first round of the first call
abbrev pub keys_of : ℕ → List ℕ
keys_of k = flat (key_shares encryption (sample_calls 16) counted k)

abbrev pub first_lane : Index → List ℕ
first_lane i = lane_of encryption (sample_calls 16) counted 1 1 i

-- where the masks of round r of call k stand, of sealing 256 bytes
abbrev pub masks_of : ℕ → ℕ → ℕ
masks_of = pair_at (sample_calls 256)

-- what call k of sealing m bytes on it takes in, where call j put out the shares of `sample_output j`
abbrev pub sample_output : ℕ → Shares
sample_output k = three (tab 16 (λ j. 16 * k + j)) (tab 16 (λ j. 128 + 7 * k + 2 * j)) (tab 16 (λ j. 240 - 11 * k - 3 * j))

abbrev pub taken_in : ℕ → ℕ → List ℕ
taken_in m k = flat ((sample_calls m).input k sample_output)

abbrev pub mask_rows : List Row
mask_rows =
    -- u, v and u XOR v of the pairs that stand at 0 and at 33
    (flat (masks_at counted 0)
    is of_shares 0x000102030405060708090a0b0c0d0e0f 0x101112131415161718191a1b1c1d1e1f 0x10101010101010101010101010101010)
    ∷ (flat (masks_at counted 33)
    is of_shares 0x2122232425262728292a2b2c2d2e2f30 0x3132333435363738393a3b3c3d3e3f40 0x10101010101010101010101010101070)
    -- where the key mask of lanes 0, 1 and 2 stands, in sealing one block: of CTR's call, of the subkeys' and of CMAC's two
    ∷ (map (key_mask_at (sample_calls 16) 1) (0 ∷ 1 ∷ 2 ∷ []) is (0 ∷ 16 ∷ 0 ∷ []))
    ∷ (map (key_mask_at (sample_calls 16) 2) (0 ∷ 1 ∷ 2 ∷ []) is (32 ∷ 48 ∷ 32 ∷ []))
    ∷ (map (key_mask_at (sample_calls 16) 3) (0 ∷ 1 ∷ 2 ∷ []) is (32 ∷ 48 ∷ 32 ∷ []))
    ∷ (map (key_mask_at (sample_calls 16) 4) (0 ∷ 1 ∷ 2 ∷ []) is (32 ∷ 48 ∷ 32 ∷ []))
    -- where the pairs of masks stand: rounds 1, 2 and 36 of call 1, round 1 of call 2, round 36 of call 34
    ∷ ((masks_of 1 1 ∷ masks_of 1 2 ∷ masks_of 1 36 ∷ masks_of 2 1 ∷ masks_of 34 36 ∷ []) is (64 ∷ 96 ∷ 1184 ∷ 1216 ∷ 39200 ∷ []))
    -- the pairs of masks of a call and their bytes; the tape need of a message of 0, 1, 16, 17 and 256 bytes
    ∷ ((pair_count ∷ call_size ∷ []) is (36 ∷ 1152 ∷ []))
    ∷ ((tape_need 0 ∷ tape_need 1 ∷ tape_need 16 ∷ tape_need 17 ∷ tape_need 256 ∷ []) is (2368 ∷ 4672 ∷ 4672 ∷ 6976 ∷ 39232 ∷ []))
    -- the link's three shares of KE with the masks c, d and c XOR d of KE; those of KM with KM's
    ∷ (keys_of 1 is of_shares 0x01050509091515111115152929252521 0x21252529295555515155554949454541 0x7174777a7d606366696c6f9295989b9e)
    ∷ (keys_of 2 is of_shares 0xdfdcd9dad3d0d5d6c7c4c1c2cbc8cdce 0xefece9eae3e0e5e6f7f4f1f2fbf8fdfe 0xafadaba9a7a5a3a1bfbdbbb9b7b5b3b1)
    ∷ (keys_of 3 is of_shares 0xdfdcd9dad3d0d5d6c7c4c1c2cbc8cdce 0xefece9eae3e0e5e6f7f4f1f2fbf8fdfe 0xafadaba9a7a5a3a1bfbdbbb9b7b5b3b1)
    ∷ (keys_of 4 is of_shares 0xdfdcd9dad3d0d5d6c7c4c1c2cbc8cdce 0xefece9eae3e0e5e6f7f4f1f2fbf8fdfe 0xafadaba9a7a5a3a1bfbdbbb9b7b5b3b1)
    -- the lanes of the first round of the first call: state shares i + 1 and i + 2 with their masks, key share i rotated by one
    ∷ (first_lane i₀ is of_shares 0x7174777a7d000306090c0f1215181b1e 0x6164676a6d707376797c7f8285888b8e 0x80828284848a8a88888a8a9494929290)
    ∷ (first_lane i₁ is of_shares 0x6164676a6d707376797c7f8285888b8e 0x4046444e4d505356595c5f6765686b6e 0x9092929494aaaaa8a8aaaaa4a4a2a2a0)
    ∷ (first_lane i₂ is of_shares 0x4046444e4d505356595c5f6765686b6e 0x7174777a7d000306090c0f1215181b1e 0x38ba3bbd3eb031b334b637c94acc4dcf)
    -- sealing 17 bytes: the two counter blocks into share 0; zeros for the subkeys
    ∷ (taken_in 17 1 is of_shares 0x01020304000000000000000500000000 0 0)
    ∷ (taken_in 17 2 is of_shares 0x01020304000000000000000500000001 0 0)
    ∷ (taken_in 17 3 is of_shares 0 0 0)
    -- CMAC's first block, counter block 0; a complete block in the middle: the chain's shares, the output's, and the message in share 0
    ∷ (taken_in 17 4 is of_shares 0x01020304000000000000000500000000 0 0)
    ∷ (taken_in 17 5 is of_shares 0x909192939495969798999a9b9c9d9e9f 0x1b172b2f2b373b3f3b372b2f2b171b1f 0x212361676163617f616361676123212f)
    -- the last block: one byte of it, with padding in share 0 and each share of the subkeys' call doubled twice; 16 bytes, doubled once
    ∷ (taken_in 17 6 is of_shares 0x60159a9f84818e8bb8bdb2b7aca9a6a3 0x7bfbc1c7ddd3293f252b11170d037803 0x5c8594aba2a8514e7f4c5d223b30188d)
    ∷ (taken_in 32 6 is of_shares 0xc0c3c6c5cccfcac9d8dbdeddd4d7d2d1 0x061a060a060a766a665a464a464a768c 0xfcf8f4ece4e014140c48447c747074e2)
    -- the empty message: the subkeys' call, then counter block 0 as the first and last block, with the shares doubled once
    ∷ (taken_in 0 1 is of_shares 0 0 0)
    ∷ (taken_in 0 2 is of_shares 0x21202722282a2c2e30323433383a3c3e 0x0f13171b1f23272b2f33373b3f4347cd 0xcbc5bfb9b3ada7a19b958f89837d77f7)
    ∷ []
