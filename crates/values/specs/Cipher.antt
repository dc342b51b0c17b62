-- Worked values of the cipher, of its S-box on shares, and of CMAC's doubling. Assumes nothing.
use Rattle.std.specs.Prelude.{List, [], ◌∷◌, ◌++◌, ℕ, ◌+◌, ◌*◌, eqb, replicate}
use Rattle.blocks.specs.Bytes.{zeros, big_endian}
use Rattle.blocks.specs.Bits.{block_of}
use Rattle.baksheesh.specs.Baksheesh.{sub_cells, inv_sub_cells, perm_bits, rotated, encrypt}
use Rattle.modes.specs.Cmac.{doubled}
use Rattle.masking.specs.Shares.{shares_in, flat}
use Rattle.masking.specs.Sbox.{sbox_form, form_shares}
use Rattle.masking.specs.Call.{share_round, encryption}
use Rattle.values.specs.Row.{Row, ◌is◌}

-- the block with only bit i set
abbrev pub only_bit : ℕ → List ℕ
only_bit i = block_of (eqb i)

-- the block of 32 times the cell x
abbrev pub of_cell : ℕ → List ℕ
of_cell x = replicate 16 (16 * x + x)

-- three shares of a block, one behind the other, each of 32 times one cell
abbrev pub of_cells : ℕ → ℕ → ℕ → List ℕ
of_cells a b c = of_cell a ++ (of_cell b ++ of_cell c)

-- what the shared S-box makes of such shares
abbrev pub shared : ℕ → ℕ → ℕ → List ℕ
shared a b c = flat (form_shares sbox_form (shares_in (of_cells a b c)))

abbrev pub cipher_rows : List Row
cipher_rows =
    -- the S-box and its inverse
    (sub_cells (of_cell 0x0) is of_cell 0x3)
    ∷ (sub_cells (of_cell 0xf) is of_cell 0x1)
    ∷ (inv_sub_cells (of_cell 0x1) is of_cell 0xf)
    -- the shared S-box
    ∷ (shared 0x0 0x0 0x0 is of_cells 0x3 0x0 0x0)
    ∷ (shared 0x1 0x0 0x0 is of_cells 0x3 0x0 0x3)
    ∷ (shared 0x1 0x4 0x0 is of_cells 0xb 0x0 0xe)
    -- the first round on shares and key shares of zeros: its constant, bit 13, goes into share 0
    ∷ (flat (share_round 0 (λ i. zeros) (λ i. zeros)) is (replicate 14 0x33 ++ (0x13 ∷ 0x33 ∷ replicate 32 0x00)))
    -- the bit move
    ∷ (perm_bits (only_bit 4) is only_bit 96)
    ∷ (perm_bits (only_bit 115) is only_bit 127)
    ∷ (perm_bits (only_bit 127) is only_bit 31)
    -- the key rotated by one
    ∷ (rotated 1 (only_bit 0) is only_bit 127)
    -- the key that the pair before the last round shows, and the last pair: rotated by 35
    ∷ (encryption.shown_key 34 (only_bit 0) is only_bit 93)
    ∷ (encryption.shown_key 35 (only_bit 0) is only_bit 93)
    -- CMAC's doubling; L, K1 and K2 of NIST's first example
    ∷ (doubled (0x80 ∷ replicate 15 0x00) is (replicate 15 0x00 ++ (0x87 ∷ [])))
    ∷ (doubled (big_endian 16 0x7df76b0c1ab899b33e42f047b91b546f) is big_endian 16 0xfbeed618357133667c85e08f7236a8de)
    ∷ (doubled (big_endian 16 0xfbeed618357133667c85e08f7236a8de) is big_endian 16 0xf7ddac306ae266ccf90bc11ee46d513b)
    -- the last of the published vectors
    ∷ (encrypt (big_endian 16 0x5920effb52bc61e33a98425321e76915) (big_endian 16 0xe6517531abf63f3d7805e126943a081c)
    is big_endian 16 0xfc7e61fee3d587308ca7bc594ebf3244)
    ∷ []
