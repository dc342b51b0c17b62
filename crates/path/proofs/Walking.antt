-- The calls of a job one after the other: what each takes in, and what becomes of its output. Assumes nothing.
use Rattle.prelude.proofs.{◌≡◌, refl, sym, ap, ap₂, ◌∙◌, List, [], ◌∷◌, ℕ, zero, suc, ◌+◌, ◌-◌, ◌≤◌, ◌<◌, add-one}
use Rattle.prelude.proofs.{ℕ_discrete, arith, length, set, get_or-set_same, get_or-set_other, eq-eqb, ne_eqb}
use Rattle.blocks.specs.Bytes.{zeros}
use Rattle.words.specs.Words.{unpacked}
use Rattle.links.specs.Record.{counter_block}
use Rattle.masking.specs.Shares.{Shares, add, each, only, shares_in, flat, Reader, at, masks_at}
use Rattle.masking.specs.Call.{encryption}
use Rattle.masking.proofs.{Shape.shares-same, Lane.shares-flat}
use Rattle.shares.specs.{declared.Triple.Triple, declared.Tape.Tape, Packed.shares_of}
use Rattle.shares.proofs.{Packed.zero-words, Onward.packed-blocks}
use Rattle.runs.specs.Run.{Run, key_shares, outputs, input_of, output_of}
use Rattle.runs.proofs.Run.{output-at}
use Rattle.walks.specs.{declared.watch.Watch.Watch, declared.Walk.Walk, Walk.Stepped}
use Rattle.walks.proofs.Walking.{step-more}
use Rattle.calls.specs.Numbered.{Call, ctr, sub, mac, IsCall, of_key, key_at}
use Rattle.calls.specs.Job.{Job, last_key, count, place_of, call_in, mac_block, chain, subkey, input_from, job_calls, ctr_out}
use Rattle.calls.specs.Sealed.{text_block, sealing_job}
use Rattle.calls.proofs.Numbered.{call_back}
use Rattle.inputs.specs.Inputs.{block_shares}
use Rattle.path.specs.Path.{Counted, IsJob, JobWalked, OutsHold, BlocksHold}

zero-shares : only (unpacked (0 ∷ 0 ∷ 0 ∷ 0 ∷ [])) ≡ λ i. zeros
zero-shares = shares-same zero-words refl refl

pub counted_none : (w : Walk) → Counted 0 w w
counted_none w = record { bytes = refl; used = omega arith; calls = omega arith }

pub counted-at : {j k : ℕ} {w r : Walk} → j ≡ k → Counted j w r → Counted k w r
counted-at e C = record { bytes = C.bytes; used = omega (arith, C.used); calls = omega (arith, C.calls) }

pub counted-on : {j k : ℕ} {w v r : Walk} → Counted j w v → Counted k v r → Counted (j + k) w r
counted-on C E = record {
  bytes = E.bytes ∙ C.bytes;
  used = omega (arith, C.used, E.used);
  calls = omega (arith, C.calls, E.calls);
}

pub counted-more : {j : ℕ} {w v r : Walk} → Counted j w v → {k x : Shares} {M : Reader} {a : Watch}
    → Stepped encryption k x M a v r → Counted (j + 1) w r
counted-more C S = record {
  bytes = ap (λ (t : Tape). t.bytes) S.tape ∙ C.bytes;
  used = omega (arith, C.used, ap (λ (t : Tape). t.used) S.tape);
  calls = omega (arith, C.calls, S.calls);
}

module _ (J : Job) (M : Reader) where
  abbrev R : Run
  R = job_calls J

  abbrev out : ℕ → Shares
  out = output_of encryption R M

  -- ---- the call c comes next: it leads behind itself, and gives its output

  module _ {n s z : ℕ} (I : IsJob J n s z) (c : Call) (i : IsCall (count J) c) where
    back : call_in J (place_of J c) ≡ c
    back = call_back J.order (count J) I.fills c i

    key-given : add (shares_in (of_key J.ke J.km c)) (masks_at M (key_at c)) ≡ key_shares encryption R M (place_of J c)
    unfolding key_shares
    key-given = λ i. add (shares_in (of_key J.ke J.km (sym back i))) (masks_at M (key_at (sym back i)))

    input-given : input_from J c (outputs encryption R M (place_of J c - 1)) ≡ input_of encryption R M (place_of J c)
    unfolding input_of
    input-given = λ i. input_from J (sym back i) (outputs encryption R M (place_of J c - 1))

    pub call-more : (a : Watch) (k : ℕ) → place_of J c ≡ k + 1 → {key input : Shares}
        → key ≡ add (shares_in (of_key J.ke J.km c)) (masks_at M (key_at c))
        → input ≡ input_from J c (outputs encryption R M (place_of J c - 1))
        → {w r : Walk} → JobWalked J M a k w → Stepped encryption key input (at w.tape.bytes.now) w.watch w r
        → JobWalked J M a (place_of J c) r × (shares_of r.out ≡ out (place_of J c))
    call-more a k number ek ei W S =
        step-more encryption R M a k (place_of J c) number (omega arith) (ek ∙ key-given) (ei ∙ input-given) W S

  -- ---- what CTR's calls take in, and their output shares

  pub ctr-in : {n s z : ℕ} → IsJob J n s z → (j : ℕ) (f : ℕ → Shares) → only (counter_block n s j) ≡ input_from J (ctr j) f
  unfolding input_from
  ctr-in I j f = sym (λ i. only (counter_block (I.number i) (I.sequence i) j))

  pub outs-none : (o : List (List ℕ)) → OutsHold J M 0 o
  outs-none o = record { hold = λ j h. absurd (omega arith) }

  pub outs-more : (j : ℕ) (t : Triple) (v : List ℕ) (o : List (List ℕ)) → OutsHold J M j o → j < length o → v ≡ flat (shares_of t)
      → shares_of t ≡ ctr_out J M j → OutsHold J M (j + 1) (set o j v)
  outs-more j t v o H fit e d = record {
    hold = λ i l. elim (ℕ_discrete i j) [
      | yes q ↦ rw (q, get_or-set_same) (ap shares_in e ∙ shares-flat (shares_of t) (packed-blocks t) ∙ d)
      | no q ↦ rw get_or-set_other (H.hold i (omega arith))
    ];
  }

  pub outs-at : {j k : ℕ} {o : List (List ℕ)} → j ≡ k → OutsHold J M j o → OutsHold J M k o
  outs-at e H = record { hold = λ i l. H.hold i (omega arith) }

  -- ---- what CMAC's calls take in

  pub sub_in : (f : ℕ → Shares) {s : Shares} → s ≡ only (unpacked (0 ∷ 0 ∷ 0 ∷ 0 ∷ [])) → s ≡ input_from J sub f
  unfolding input_from
  sub_in f e = e ∙ zero-shares

  pub chain-none : {s : Shares} → s ≡ only (unpacked (0 ∷ 0 ∷ 0 ∷ 0 ∷ [])) → s ≡ chain J out 0
  unfolding chain
  chain-none e = e ∙ zero-shares

  pub chain_more : (j : ℕ) → out (place_of J (mac j)) ≡ chain J out (j + 1)
  unfolding chain
  chain_more j = rw add-one

  pub subkey-made : {n s z : ℕ} → IsJob J n s z → {l : Shares} → l ≡ out (place_of J sub) → each (last_key z) l ≡ subkey J out
  unfolding subkey
  subkey-made I e = λ i. each (last_key (sym I.size i)) (e i)

  -- CMAC's call for block j, of the outputs before it
  module _ (j : ℕ) where
    abbrev f : ℕ → Shares
    f = outputs encryption R M (place_of J (mac j) - 1)

    known : (k : ℕ) → 1 ≤ k → k < place_of J (mac j) → out k ≡ f k
    known k p q = sym (output-at encryption R M (place_of J (mac j) - 1) k p (omega arith))

    subkey-known : subkey J out ≡ subkey J f
    unfolding subkey
    subkey-known = ap (each (last_key J.size)) (known (place_of J sub) (omega arith) (omega arith))

  chain-known : (j : ℕ) → chain J out j ≡ chain J (f j) j
  unfolding chain
  chain-known zero = refl
  chain-known (suc j) = known (suc j) (place_of J (mac j)) (omega arith) (omega arith)

  -- its block, with the output shares in o
  pub block_held : {n s z : ℕ} → IsJob J n s z → (m : List ℕ) (o : List (List ℕ)) → BlocksHold J M m o → (j : ℕ) → j ≤ count J
      → block_shares n s m o j ≡ mac_block J (f j) j
  unfolding mac_block
  block_held I m o H zero l = sym (λ i. only (counter_block (I.number i) (I.sequence i) 0))
  block_held I m o H (suc j) l = H j l

  -- block j goes in with the chain before it; the last one with its subkey too
  pub chain-in : (j : ℕ) → j < count J → add (chain J out j) (mac_block J (f j) j) ≡ input_from J (mac j) (f j)
  unfolding input_from
  chain-in j q = rw (ne_eqb j (count J) (λ e. omega arith)) (ap (λ (s : Shares). add s (mac_block J (f j) j)) (chain-known j))

  pub last-in : add (chain J out (count J)) (add (subkey J out) (mac_block J (f (count J)) (count J))) ≡ input_from J (mac (count J)) (f (count J))
  unfolding input_from
  last-in =
      rw (eq-eqb (count J) (count J) refl)
      (ap₂ (λ (s k : Shares). add s (add k (mac_block J (f (count J)) (count J)))) (chain-known (count J)) (subkey-known (count J)))

-- ---- in a sealing the output shares that CTR's calls left are those that its blocks are made of

pub sealing-held : (M : Reader) (ke km : List ℕ) (n s : ℕ) (m : List ℕ) (o : List (List ℕ)) → let J = sealing_job ke km n s m in
    OutsHold J M (count J) o → BlocksHold J M m o
sealing-held M ke km n s m o H j l =
    let J : Job = sealing_job ke km n s m in
    ap (text_block m j) (H.hold j l ∙ sym (output-at encryption (job_calls J) M (place_of J (mac (suc j)) - 1) (place_of J (ctr j))
    (omega arith) (omega arith)))
