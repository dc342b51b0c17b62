-- One sealing on shares: a job whose CTR's calls come first, and its record. Assumes nothing.
use Rattle.std.specs.Prelude.{List, ◌++◌, ℕ, ◌+◌, ◌-◌, length, take, replicate}
use Rattle.blocks.specs.Bytes.{block_count, piece}
use Rattle.links.specs.Record.{record_of}
use Rattle.links.specs.Links.{sender_form}
use Rattle.links.specs.declared.Sender.{Sender}
use Rattle.masking.specs.Shares.{Shares, join, add, each, only, Reader}
use Rattle.runs.specs.Run.{Run}
use Rattle.calls.specs.Numbered.{ctr, ctr_first, call_number}
use Rattle.calls.specs.Job.{Job, completed, job_calls, code_shares, crypt}

-- the first w bytes of a block, zeros behind them
abbrev pub cut : ℕ → List ℕ → List ℕ
cut w b = take w b ++ replicate (16 - w) 0

-- block j of the ciphertext, in the output shares s of its call, with the message block and its padding in share 0
abbrev pub text_block : List ℕ → ℕ → Shares → Shares
text_block m j s = add (each (cut (length (piece j m))) s) (only (completed (piece j m)))

-- the sealing of the message m under the key shares ke and km, the link number n and the sequence number s
abbrev pub sealing_job : List ℕ → List ℕ → ℕ → ℕ → List ℕ → Job
sealing_job ke km n s m = record {
  ke = ke;
  km = km;
  number = n;
  sequence = s;
  order = ctr_first;
  size = length m;
  block = λ j f. text_block m j (f (call_number ctr_first (block_count (length m)) (ctr j)));
}

-- on the link x
module _ (x : Sender) (m : List ℕ) where
  abbrev pub sealing : Job
  sealing = sealing_job x.ke x.km x.number (x.last + 1) m

  abbrev pub sealing_calls : Run
  sealing_calls = job_calls sealing

  -- what they make, with what is read of a tape
  module _ (M : Reader) where
    abbrev pub tag_shares : Shares
    tag_shares = code_shares sealing M

    unfoldable pub sealed_record : List ℕ
    sealed_record =
        record_of (sender_form x) x.number (x.last + 1) (crypt sealing M m) (take (sender_form x).tag (join tag_shares))
