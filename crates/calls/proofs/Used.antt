-- The numbered calls, whose lanes are reported, are the ones that sealing uses, on shares and plainly. Assumes nothing.
use Rattle.prelude.proofs.{◌≡◌, refl, ap, ◌∙◌, List, ℕ, suc, ◌+◌, ◌-◌, ◌<◌, arith, length, take, eq-eqb, ne_eqb}
use Rattle.blocks.specs.Bytes.{Block, ◌⊕◌, zeros, block_count, piece}
use Rattle.baksheesh.specs.Baksheesh.{encrypt}
use Rattle.baksheesh.proofs.Inverse.{encrypt-block}
use Rattle.modes.specs.Cmac.{mac_count, subkey₁, last_block, cmac}
use Rattle.modes.specs.Cmac as Cmac
use Rattle.modes.proofs.{Pieces.mac_count-behind, Ctr.ctr-length, Ctr.piece-ctr, Ctr.ctr_piece-⊕}
use Rattle.links.specs.{Record.counter_block, Record.record_of, Links.sender_form, declared.Sender.Sender}
use Rattle.links.proofs.Record.{counter-block}
use Rattle.plain.specs.Plain.{crypted, authenticated, mac_of}
use Rattle.masking.specs.{Shares.join, Shares.Reader, Call.encryption}
use Rattle.runs.specs.Run.{outputs, input_of, output_of}
use Rattle.runs.proofs.Run.{output-at}
use Rattle.calls.specs.Numbered.{mac, call_count}
use Rattle.calls.specs.{Job.crypt, Sealed.sealing, Sealed.sealing_calls, Sealed.sealed_record}
use Rattle.calls.specs.{Plain.plain_input, Used.CallsUsed, Used.PlainCallsUsed}

pub calls-used : (x : Sender) (m : List ℕ) (M : Reader) → CallsUsed x m M
unfolding output_of input_of crypt sealed_record
calls-used x m M = record {
  outputs = λ k. refl;
  inputs = λ k. (
    outputs encryption (sealing_calls x m) M (k - 1),
    (λ j l h. output-at encryption (sealing_calls x m) M (k - 1) j l (omega arith)),
    refl,
  );
  recorded =
      let n : ℕ = block_count (length m) in
      let e : n + (2 + n) ≡ call_count n = omega arith in
      ap (λ (k : ℕ). record_of (sender_form x) x.number (x.last + 1) (crypt (sealing x m) M m)
      (take (sender_form x).tag (join (output_of encryption (sealing_calls x m) M k)))) e;
}

-- ---- plainly: CMAC's chain and code of a ciphertext

module _ (ke km : List ℕ) (n s : ℕ) (text : List ℕ) where
  abbrev whole : List ℕ
  whole = authenticated n s text

  pub chain-made : (j : ℕ) → j < block_count (length text)
      → Cmac.chain (encrypt km) zeros whole (suc j) ≡ encrypt km (plain_input ke km n s text (mac j))
  unfolding plain_input Cmac.chain
  chain-made j h = rw (ne_eqb j (block_count (length text)) (λ e. omega arith)) refl

  pub code-made : mac_of (encrypt km) n s text ≡ encrypt km (plain_input ke km n s text (mac (block_count (length text))))
  unfolding plain_input cmac
  code-made =
      let e : mac_count whole - 1 ≡ block_count (length text) =
      omega (arith, mac_count-behind (counter_block n s 0) text (counter-block n s 0).size) in
      ap (λ (k : ℕ). encrypt km (Cmac.chain (encrypt km) zeros whole k ⊕ last_block (encrypt km) (piece k whole))) e
      ∙ rw (eq-eqb (block_count (length text)) (block_count (length text)) refl) refl

-- the ciphertext is as long as the message
pub text-length : {ke : List ℕ} → Block ke → (n s : ℕ) (m : List ℕ) → length (crypted (encrypt ke) n s m) ≡ length m
text-length {ke} p n s m = ctr-length (encrypt ke) (counter_block n s) m (λ j h. (encrypt-block ke _ p (counter-block n s j)).size)

pub plain-calls-used : (ke km : List ℕ) → Block ke → Block km → (n s : ℕ) (m : List ℕ) → PlainCallsUsed ke km n s m
unfolding plain_input subkey₁
plain-calls-used ke km p q n s m = record {
  outputs = λ j h.
      piece-ctr (encrypt ke) (counter_block n s) (λ i. encrypt-block ke _ p (counter-block n s i)) m j h
      ∙ ctr_piece-⊕ (encrypt ke) (counter_block n s) m j;
  first-subkey = refl;
  chained = λ j h. chain-made ke km n s text j (omega (arith, text-length p n s m));
  code = code-made ke km n s text
      ∙ ap (λ (l : ℕ). encrypt km (plain_input ke km n s text (mac (block_count l)))) (text-length p n s m);
}
  where
    text : List ℕ
    text = crypted (encrypt ke) n s m
