-- `call` meets its contract. Assumes nothing.
use Rattle.engines.specs.Cipher.{cipher_of}
use Rattle.engines.proofs.Block.{is-refused, is-done}
use Rattle.engines.proofs.call.Goals as goal

pub returns-then-not-blocks_long : goal.returns-then-not-blocks_long
returns-then-not-blocks_long c =
    let w = is-refused (cipher_of c.args.which) _ _ _ c.blocks_long.ensures c.if-not-blocks_long.true in
    record { result_value = w.0; output_after = w.1 }

pub returns : goal.returns
returns c =
    let w = is-done (cipher_of c.args.which) _ _ _ c.blocks_long.ensures _ _ _ _ c.if-not-blocks_long.false
    c.bytes_at-k.ensures c.bytes_at-x.ensures c.ciphered.ensures c.copy_from_slice.ensures.len c.copy_from_slice.ensures.after in
    record { result_value = w.0; output_after = w.1 }
