-- The joined shares of a job's calls are plain blocks: those of CTR, and of CMAC of its ciphertext. Sealing's record is the plain record.
-- Assumes nothing.
use Rattle.prelude.proofs.{◌≡◌, refl, sym, ap, ap₂, ◌∙◌, Bool, true, false, cond, List, ◌∷◌, ◌++◌, append-nil, ℕ, zero, suc, ◌+◌, ◌-◌, ◌%◌}
use Rattle.prelude.proofs.{◌≤◌, ◌<◌, dec_lt, ℕ_discrete, arith, eqb, length, take, replicate, length-append, length-take, length-replicate}
use Rattle.prelude.proofs.{take_all, eq-eqb, ne_eqb}
use Rattle.blocks.specs.Bytes.{Bytes, Block, ◌⊕◌, zeros, block_count, piece}
use Rattle.blocks.proofs.Xor.{⊕-comm, ⊕-length, ⊕-replicate, take-⊕, append-⊕}
use Rattle.baksheesh.specs.Baksheesh.{rounds, encrypt}
use Rattle.baksheesh.proofs.Inverse.{encrypt-block}
use Rattle.modes.specs.Cmac.{doubled, subkey₁, subkey₂, last_block}
use Rattle.modes.specs.Cmac as Cmac
use Rattle.modes.proofs.Pieces.{piece-length, piece-le, piece-whole, piece_bytes, piece-front, piece-behind}
use Rattle.modes.proofs.{Ctr.piece-ctr, Ctr.ctr-same, Doubled.doubled-block, Doubled.doubled-⊕}
use Rattle.links.specs.{Record.counter_block, Record.record_of, Links.sender_form, declared.Sender.Sender}
use Rattle.links.proofs.Record.{counter-block}
use Rattle.plain.specs.Plain.{crypted, authenticated, mac_of, plain_record}
use Rattle.masking.specs.Shares.{Shares, Blocks, join, add, each, only, shares_in, Reader}
use Rattle.masking.specs.{Stages.plain_after, Call.encryption, Call.plain_encryption}
use Rattle.masking.proofs.Joins.{Linear, join-add, join-only, join-zeros, join-map}
use Rattle.masking.proofs.{Shape.Reads, Shape.join-block, Encryption.encryption-blocks, Encryption.encryption-joins}
use Rattle.masking.proofs.Encryption.{plain-encrypts}
use Rattle.runs.specs.Run.{output_of}
use Rattle.runs.proofs.Run.{InputsJoin, output-join}
use Rattle.calls.specs.Numbered.{Call, ctr, sub, mac, IsCall, Fills, mac-behind, of_key, tape_need}
use Rattle.calls.specs.Job.{Job, completed, count, place_of, call_in, subkey, mac_block, chain, input_from, job_calls, ctr_out, code_shares}
use Rattle.calls.specs.Job.{crypt}
use Rattle.calls.specs.Sealed.{cut, sealing, sealed_record}
use Rattle.calls.specs.Demand.{Formed, joined_ke, joined_km, plain_text}
use Rattle.calls.specs.Plain.{plain_input, plain_output}
use Rattle.calls.proofs.Numbered.{call_back, number-low, number-high, number-back}
use Rattle.calls.proofs.Shape.{JobBlocks, job-placed, job-blocks, sealing-blocks, cut-block, completed-whole, completed-short}
use Rattle.calls.proofs.Shape.{completed-block}
use Rattle.calls.proofs.Used.{chain-made, code-made, text-length}

-- ---- the subkeys

-- doubling each of three shares doubles their XOR
pub doubled-join : (s : Shares) → Blocks s → join (each doubled s) ≡ doubled (join s)
doubled-join = join-map (record { f-block = λ a p. doubled-block a; f-⊕ = λ a b p q. doubled-⊕ p q })

cond-⊕ : (t : Bool) (a b c d : List ℕ) → cond t a b ⊕ cond t c d ≡ cond t (a ⊕ c) (b ⊕ d)
cond-⊕ true a b c d = refl
cond-⊕ false a b c d = refl

-- ---- a job and its ciphertext

module _ (J : Job) (text : List ℕ) where
  abbrev n : ℕ
  n = count J

  abbrev KE : List ℕ
  KE = join (shares_in J.ke)

  abbrev KM : List ℕ
  KM = join (shares_in J.km)

  abbrev input : Call → List ℕ
  input = plain_input KE KM J.number J.sequence text

  abbrev output : Call → List ℕ
  output = plain_output KE KM J.number J.sequence text

  abbrev whole : List ℕ
  whole = authenticated J.number J.sequence text

  -- of the calls before number k, f has outputs that join to plain ones
  abbrev pub JoinsBefore : ℕ → (ℕ → Shares) → Type 0
  JoinsBefore k f = (c : Call) → IsCall n c → place_of J c < k → join (f (place_of J c)) ≡ output c

  -- the calls fill the numbers, the ciphertext has the size that is said, and its blocks join to what it is
  pub record JobJoins : Type 0 where
    pub fills : Fills J.order n
    pub sized : length text ≡ J.size
    pub block : (k : ℕ) (f : ℕ → Shares) → ((j : ℕ) → Blocks (f j)) → JoinsBefore k f
        → (j : ℕ) → j < n → place_of J (mac (suc j)) ≤ k → join (J.block j f) ≡ completed (piece j text)

module _ {J : Job} (B : JobBlocks J) {text : List ℕ} (T : JobJoins J text) where
  pub given-join : (c : Call) → join (shares_in (of_key J.ke J.km c)) ≡ of_key (KE J text) (KM J text) c
  given-join (ctr j) = refl
  given-join sub = refl
  given-join (mac j) = refl

  -- ---- what is authenticated

  abbrev front : List ℕ
  front = counter_block J.number J.sequence 0

  front-size : length front ≡ 16
  front-size = (counter-block _ _ 0).size

  whole_length : length (whole J text) ≡ 16 + J.size
  whole_length = length-append front text ∙ ap₂ ◌+◌ front-size T.sized

  piece-size : (j : ℕ) → j < count J → length (piece j (whole J text)) ≡ 16
  piece-size j l = piece-whole j (whole J text) (omega (arith, whole_length))

  -- the last block is complete where the ciphertext ends with one, or is empty
  last-complete : eqb (J.size % 16) 0 ≡ eqb (length (piece (count J) (whole J text))) 16
  last-complete = elim (ℕ_discrete (J.size % 16) 0) [
    | yes e ↦ eq-eqb (J.size % 16) 0 e ∙ sym (eq-eqb (length last) 16 (omega (arith, piece-length (count J) (whole J text), whole_length)))
    | no e ↦
        ne_eqb (J.size % 16) 0 e
        ∙ sym (ne_eqb (length last) 16 (λ f. e (omega (arith, piece-length (count J) (whole J text), whole_length))))
  ]
    where
      last : List ℕ
      last = piece (count J) (whole J text)

  -- ---- the inputs of CMAC's calls, of outputs f that join to plain outputs before call k

  module _ (f : ℕ → Shares) (fb : (j : ℕ) → Blocks (f j)) (k : ℕ) (fj : JoinsBefore J text k f) where
    mac_block-join : (j : ℕ) → j ≤ count J → place_of J (mac j) ≤ k → join (mac_block J f j) ≡ completed (piece j (whole J text))
    unfolding mac_block
    mac_block-join zero l h =
        join-only (counter-block _ _ 0) ∙ sym (completed-whole front front-size) ∙ ap completed (sym (piece-front front text front-size))
    mac_block-join (suc j) l h = T.block k f fb fj j l h ∙ ap completed (sym (piece-behind j front text front-size))

    subkey-join : place_of J sub < k → join (subkey J f)
        ≡ cond (eqb (length (piece (count J) (whole J text))) 16) (subkey₁ (encrypt (KM J text))) (subkey₂ (encrypt (KM J text)))
    unfolding subkey subkey₁ subkey₂ plain_input
    subkey-join h =
        once (eqb (J.size % 16) 0)
        ∙ ap (λ (t : Bool). cond t (subkey₁ (encrypt (KM J text))) (subkey₂ (encrypt (KM J text)))) last-complete
      where
        made : Shares
        made = f (place_of J sub)

        first-join : join (each doubled made) ≡ subkey₁ (encrypt (KM J text))
        first-join = doubled-join made (fb _) ∙ ap doubled (fj sub tt h)

        once : (t : Bool) → join (each (λ l. cond t (doubled l) (doubled (doubled l))) made)
            ≡ cond t (subkey₁ (encrypt (KM J text))) (subkey₂ (encrypt (KM J text)))
        once true = first-join
        once false = doubled-join (each doubled made) (λ i. doubled-block (made i)) ∙ ap doubled first-join

    chain-join : (j : ℕ) → j ≤ count J → place_of J (mac j) ≤ k → join (chain J f j) ≡ Cmac.chain (encrypt (KM J text)) zeros (whole J text) j
    unfolding chain Cmac.chain
    chain-join zero l h = join-zeros
    chain-join (suc j) l h =
        fj (mac j) (omega arith) (omega arith) ∙ sym (chain-made (KE J text) (KM J text) J.number J.sequence text j
        (omega (arith, T.sized)))

    last-join : place_of J (mac (count J)) ≤ k
        → join (add (subkey J f) (mac_block J f (count J))) ≡ last_block (encrypt (KM J text)) (piece (count J) (whole J text))
    unfolding last_block
    last-join h =
        join-add (subkey J f) (mac_block J f (count J)) ∙ ap₂ ◌⊕◌ (subkey-join (omega arith)) (mac_block-join (count J) (omega arith) h)
        ∙ cond-⊕ (eqb (length (piece (count J) (whole J text))) 16) _ _ _ _

    inputs-join : (c : Call) → IsCall (count J) c → place_of J c ≡ k → join (input_from J c f) ≡ input J text c
    unfolding input_from plain_input
    inputs-join (ctr j) i e = join-only (counter-block _ _ j)
    inputs-join sub i e = join-zeros
    inputs-join (mac j) i e = rw T.sized (join-add (chain J f j) _ ∙ ap₂ ◌⊕◌ (chain-join j i (omega arith)) (elim (ℕ_discrete j (count J)) [
      | yes d ↦ rw (eq-eqb j (count J) d, d) (last-join (omega arith))
      | no d ↦ rw (ne_eqb j (count J) d)
          (mac_block-join j i (omega arith) ∙ completed-whole (piece j (whole J text)) (piece-size j (omega arith)))
    ]))

  -- ---- so the run joins

  -- the plain cipher's output of a call
  made-plainly : (c : Call) → plain_after plain_encryption (join (shares_in (of_key J.ke J.km c))) (input J text c) rounds ≡ output J text c
  made-plainly c = plain-encrypts _ _ ∙ ap (λ (z : List ℕ). encrypt z (input J text c)) (given-join c)

  pub job-joins : InputsJoin encryption (job_calls J) plain_encryption (λ k. input J text (call_in J k))
  job-joins k l h f fb fj =
      let back = number-back J.order (count J) T.fills k l h in
      inputs-join f fb k
      (λ c i q. fj (place_of J c) (number-low J.order (count J) c) q ∙ made-plainly (call_in J (place_of J c))
      ∙ ap (λ (d : Call). output J text d) (call_back J.order (count J) T.fills c i))
      (call_in J k) back.0 back.1

  -- ---- with a tape that is long enough

  module _ (M : Reader) (h : Reads M (tape_need J.size)) where
    outputs-join : (c : Call) → IsCall (count J) c → join (output_of encryption (job_calls J) M (place_of J c)) ≡ output J text c
    outputs-join c i =
        let high = number-high J.order (count J) T.fills c i in
        output-join (job-placed J) encryption-blocks (job-blocks J B) M encryption-joins (λ k. input J text (call_in J k)) job-joins
        (place_of J c) (number-low J.order (count J) c) high (λ p u. h p (omega arith))
        ∙ made-plainly (call_in J (place_of J c)) ∙ ap (λ (d : Call). output J text d) (call_back J.order (count J) T.fills c i)

    -- CTR of any text of that size, and the code
    pub crypt-join : (m : List ℕ) → length m ≡ J.size → crypt J M m ≡ crypted (encrypt (KE J text)) J.number J.sequence m
    unfolding crypt plain_input
    crypt-join m e =
        ctr-same (λ b. b) (encrypt (KE J text)) (λ j. join (ctr_out J M j)) (counter_block J.number J.sequence) m
        (λ j l. outputs-join (ctr j) (omega arith))

    pub code-join : join (code_shares J M) ≡ mac_of (encrypt (KM J text)) J.number J.sequence text
    code-join =
        outputs-join (mac (count J)) (omega arith)
        ∙ sym (code-made (KE J text) (KM J text) J.number J.sequence text
        ∙ ap (λ (l : ℕ). output J text (mac (block_count l))) T.sized)

-- ---- blocks of a message

cut-whole : (w : ℕ) (b : List ℕ) → w ≡ 16 → Block b → cut w b ≡ b
cut-whole w b e p =
    let d : 16 - w ≡ 0 = omega arith in
    ap (λ (n : ℕ). take w b ++ replicate n 0) d ∙ append-nil (take w b) ∙ take_all w b (omega arith)

cut-linear : (w : ℕ) → w ≤ 16 → Linear (cut w)
cut-linear w h = record {
  f-block = λ a p. cut-block w a h p;
  f-⊕ = λ a b p q.
      ap₂ ◌++◌ (take-⊕ w a b) (sym (⊕-replicate (16 - w) (replicate (16 - w) 0) (simp length-replicate (omega arith))))
      ∙ sym (append-⊕ (take w a) (replicate (16 - w) 0) (take w b) (replicate (16 - w) 0) (simp length-take (omega arith)));
}

-- an output block cut to the message block, with the message block padded: the ciphertext block padded
cut-completed : (p b : List ℕ) → length p ≤ 16 → Block b → cut (length p) b ⊕ completed p ≡ completed (p ⊕ take (length p) b)
cut-completed p b h q = elim (dec_lt (length p) 16) [
  | yes l ↦
      let k : ℕ = 15 - length p in
      ap (λ (z : List ℕ). cut (length p) b ⊕ z) (completed-short p (λ e. omega arith))
      ∙ append-⊕ (take (length p) b) (replicate (16 - length p) 0) p (0x80 ∷ replicate k 0) (simp length-take (omega arith))
      ∙ ap₂ ◌++◌ (⊕-comm (take (length p) b) p)
      (⊕-comm (replicate (16 - length p) 0) (0x80 ∷ replicate k 0)
      ∙ ⊕-replicate (16 - length p) (0x80 ∷ replicate k 0) (simp length-replicate (omega arith)))
      ∙ ap (λ (n : ℕ). (p ⊕ take (length p) b) ++ (0x80 ∷ replicate (15 - n) 0)) (sym size)
      ∙ sym (completed-short (p ⊕ take (length p) b) (λ e. omega (arith, size)))
  | no l ↦
      let e : length p ≡ 16 = omega arith in
      ap₂ ◌⊕◌ (cut-whole (length p) b e q) (completed-whole p e) ∙ ⊕-comm b p
      ∙ ap (λ (z : List ℕ). p ⊕ z) (sym (take_all (length p) b (omega arith)))
      ∙ sym (completed-whole (p ⊕ take (length p) b) (size ∙ e))
]
  where
    size : length (p ⊕ take (length p) b) ≡ length p
    size = ⊕-length p (take (length p) b) ∙ simp length-take (omega arith)

-- ---- a sealing of m on x

module _ (x : Sender) (m : List ℕ) (F : Formed x) (b : Bytes m) where
  blocks : JobBlocks (sealing x m)
  blocks = sealing-blocks x m F b

  -- KE is a block
  ke-block : Block (joined_ke x)
  ke-block = join-block blocks.ke

  counters : (j : ℕ) → Block (encrypt (joined_ke x) (counter_block x.number (x.last + 1) j))
  counters j = encrypt-block (joined_ke x) _ ke-block (counter-block _ _ j)

  pub sealing-joins : JobJoins (sealing x m) (plain_text x m)
  unfolding plain_input
  sealing-joins = record {
    fills = mac-behind refl refl;
    sized = text-length ke-block x.number (x.last + 1) m;
    block = λ k f fb fj j l h.
        let p : List ℕ = piece j m in
        let s : Shares = f (place_of (sealing x m) (ctr j)) in
        join-add (each (cut (length p)) s) (only (completed p))
        ∙ ap₂ ◌⊕◌ (join-map (cut-linear (length p) (piece-le j m)) s (fb _) ∙ ap (cut (length p)) (fj (ctr j) l (omega arith)))
        (join-only (completed-block p (piece_bytes j m b) (piece-le j m)))
        ∙ cut-completed p (encrypt (joined_ke x) (counter_block x.number (x.last + 1) j)) (piece-le j m) (counters j)
        ∙ ap completed (sym (piece-ctr (encrypt (joined_ke x)) (counter_block x.number (x.last + 1)) counters m j l));
  }

  pub record-join : (M : Reader) → Reads M (tape_need (length m))
      → sealed_record x m M ≡ plain_record (sender_form x) (encrypt (joined_ke x)) (encrypt (joined_km x)) x.number (x.last + 1) m
  unfolding sealed_record plain_record
  record-join M h =
      let f = sender_form x in
      ap₂ (λ (c t : List ℕ). record_of f x.number (x.last + 1) c (take f.tag t)) (crypt-join blocks sealing-joins M h m refl)
      (code-join blocks sealing-joins M h)
