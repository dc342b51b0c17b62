-- The words of the statement that the numbered calls are the ones that sealing uses, on shares and plainly. Assumes nothing.
use Rattle.std.specs.Prelude.{◌≡◌, List, ℕ, suc, ◌+◌, ◌≤◌, ◌<◌, length, take}
use Rattle.blocks.specs.Bytes.{◌⊕◌, zeros, block_count, piece}
use Rattle.baksheesh.specs.Baksheesh.{encrypt}
use Rattle.modes.specs.Ctr as Ctr
use Rattle.modes.specs.Cmac.{doubled, subkey₁}
use Rattle.modes.specs.Cmac as Cmac
use Rattle.links.specs.Record.{record_of}
use Rattle.links.specs.Links.{sender_form}
use Rattle.links.specs.declared.Sender.{Sender}
use Rattle.plain.specs.Plain.{crypted, authenticated, mac_of}
use Rattle.masking.specs.Shares.{Shares, join, Reader}
use Rattle.masking.specs.Stages.{call}
use Rattle.masking.specs.Call.{encryption}
use Rattle.runs.specs.Run.{key_shares, input_of, output_of}
use Rattle.calls.specs.Numbered.{ctr, sub, mac, ctr_first, call_number, call_count, call_at}
use Rattle.calls.specs.Job.{input_from}
use Rattle.calls.specs.Sealed.{sealing, sealing_calls, sealed_record}
use Rattle.calls.specs.Plain.{plain_input}
use Rattle.calls.specs.Demand.{sealing_call}

-- f has the outputs of the calls before call k
abbrev pub Before : Sender → List ℕ → Reader → ℕ → (ℕ → Shares) → Type 0
Before x m M k f = (j : ℕ) → 1 ≤ j → j < k → f j ≡ output_of encryption (sealing_calls x m) M j

-- of the sealing of m on x with what is read of a tape: each call makes its output of the key shares and the input that its lanes are of,
-- each input is made of the outputs before it, and the record is made of the outputs of CTR's calls and of the last call
pub record CallsUsed (x : Sender) (m : List ℕ) (M : Reader) : Type 0 where
  pub outputs : (k : ℕ) → let R = sealing_calls x m in
      output_of encryption R M k ≡ call encryption (key_shares encryption R M k) (input_of encryption R M k) M (call_at k)
  pub inputs : (k : ℕ) → (f : ℕ → Shares) × Before x m M k f
      × (input_of encryption (sealing_calls x m) M k ≡ input_from (sealing x m) (sealing_call m k) f)
  pub recorded : let n = block_count (length m) in let out = output_of encryption (sealing_calls x m) M in
      sealed_record x m M ≡ record_of (sender_form x) x.number (x.last + 1)
      (Ctr.ctr (λ b. b) (λ j. join (out (call_number ctr_first n (ctr j)))) m) (take (sender_form x).tag (join (out (call_count n))))

-- of plain sealing of m under the keys ke and km, with the link number n and the sequence number s: its ciphertext blocks, subkeys, chain
-- and code are made of the calls' outputs
pub record PlainCallsUsed (ke km : List ℕ) (n s : ℕ) (m : List ℕ) : Type 0 where
  pub outputs : let text = crypted (encrypt ke) n s m in (j : ℕ) → j < block_count (length m)
      → piece j text ≡ piece j m ⊕ encrypt ke (plain_input ke km n s text (ctr j))
  pub first-subkey : let text = crypted (encrypt ke) n s m in subkey₁ (encrypt km) ≡ doubled (encrypt km (plain_input ke km n s text sub))
  pub chained : let text = crypted (encrypt ke) n s m in (j : ℕ) → j < block_count (length m)
      → Cmac.chain (encrypt km) zeros (authenticated n s text) (suc j) ≡ encrypt km (plain_input ke km n s text (mac j))
  pub code : let text = crypted (encrypt ke) n s m in
      mac_of (encrypt km) n s text ≡ encrypt km (plain_input ke km n s text (mac (block_count (length m))))
