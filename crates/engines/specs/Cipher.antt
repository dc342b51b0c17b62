-- What each cipher of a block call makes of a block. Assumes nothing.
use Rattle.std.specs.Prelude.{List, ℕ}
use Rattle.baksheesh.specs.Baksheesh.{encrypt, decrypt}
use Rattle.engines.specs.declared.Cipher.{Cipher}
use Rattle.engines.specs.declared.Cipher.TheVariants.{EncryptTable, EncryptPacked, DecryptTable, DecryptPacked}

-- under a key; the engine makes no difference
abbrev pub cipher_of : Cipher → List ℕ → List ℕ → List ℕ
cipher_of EncryptTable = encrypt
cipher_of EncryptPacked = encrypt
cipher_of DecryptTable = decrypt
cipher_of DecryptPacked = decrypt
