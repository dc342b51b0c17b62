-- The numbers of a job's calls, in either order, and where their masks stand on the tape. Assumes nothing.
use Rattle.prelude.proofs.{◌≡◌, refl, ap, inl, inr, Bool, false, ◌&&◌, ℕ, ◌+◌, ◌-◌, ◌*◌, ◌≤◌, ◌<◌, dec_le, arith, leb, le-leb, lt-leb, eq-eqb}
use Rattle.prelude.proofs.{ne_eqb}
use Rattle.masking.specs.{Shares.pair_size, Call.pair_count, OneTape.Outside}
use Rattle.runs.specs.Reported.{pair_at}
use Rattle.calls.specs.Numbered.{Call, ctr, sub, mac, Order, call_number, call_of, IsCall, Fills, mac-behind, ctr-behind, call_count}
use Rattle.calls.specs.Numbered.{key_at, tape_need}
use Rattle.calls.specs.Job.{Job, job_calls}

-- k is none of CMAC's numbers, of which b stand before
abbrev OfCtr : ℕ → ℕ → ℕ → Type 0
OfCtr b n k = Outside (b + 1) (n + 2) k

not-mac : (b n k : ℕ) → OfCtr b n k → (leb (b + 1) k && leb k (b + (2 + n))) ≡ false
not-mac b n k (inl h) = ap (λ (t : Bool). t && leb k (b + (2 + n))) (lt-leb (b + 1) k h)
not-mac b n k (inr h) = rw (le-leb (b + 1) k (omega arith)) (lt-leb k (b + (2 + n)) (omega arith))

module _ (o : Order) (n : ℕ) where
  abbrev b : ℕ
  b = o.before_mac n

  abbrev c : ℕ
  c = o.before_ctr n

  pub number-low : (d : Call) → 1 ≤ call_number o n d
  number-low (ctr j) = omega arith
  number-low sub = omega arith
  number-low (mac j) = omega arith

  pub number-high : Fills o n → (d : Call) → IsCall n d → call_number o n d ≤ call_count n
  number-high (mac-behind e f) (ctr j) h = omega arith
  number-high (mac-behind e f) sub h = omega arith
  number-high (mac-behind e f) (mac j) h = omega arith
  number-high (ctr-behind e f) (ctr j) h = omega arith
  number-high (ctr-behind e f) sub h = omega arith
  number-high (ctr-behind e f) (mac j) h = omega arith

  -- ---- a number's call

  apart : Fills o n → (j : ℕ) → j < n → OfCtr b n (c + (1 + j))
  apart (mac-behind e f) j h = inl (omega arith)
  apart (ctr-behind e f) j h = inr (omega arith)

  pub call_back : Fills o n → (d : Call) → IsCall n d → call_of o n (call_number o n d) ≡ d
  unfolding call_of
  call_back F (ctr j) h = rw (not-mac b n (c + (1 + j)) (apart F j h)) (ap ctr (omega arith))
  call_back F sub h = rw (le-leb (b + 1) (b + 1) (omega arith), le-leb (b + 1) (b + (2 + n)) (omega arith), eq-eqb (b + 1) (b + 1) refl)
  call_back F (mac j) h =
      rw (
        le-leb (b + 1) (b + (2 + j)) (omega arith),
        le-leb (b + (2 + j)) (b + (2 + n)) (omega arith),
        ne_eqb (b + (2 + j)) (b + 1) (λ e. omega arith),
      ) (ap mac (omega arith))

  -- ---- and its number

  ctr-back : Fills o n → (k : ℕ) → OfCtr b n k → 1 ≤ k → k ≤ call_count n
      → (k - (c + 1) < n) × (c + (1 + (k - (c + 1))) ≡ k)
  ctr-back (mac-behind e f) k (inl g) l h = (omega arith, omega arith)
  ctr-back (mac-behind e f) k (inr g) l h = absurd (omega arith)
  ctr-back (ctr-behind e f) k (inl g) l h = absurd (omega arith)
  ctr-back (ctr-behind e f) k (inr g) l h = (omega arith, omega arith)

  pub number-back : Fills o n → (k : ℕ) → 1 ≤ k → k ≤ call_count n → IsCall n (call_of o n k) × (call_number o n (call_of o n k) ≡ k)
  unfolding call_of
  number-back F k l h = elim (dec_le (b + 1) k) [
    | yes p ↦ elim (dec_le k (b + (2 + n))) [
      | yes q ↦ rw (le-leb (b + 1) k p, le-leb k (b + (2 + n)) q) (elim (dec_le k (b + 1)) [
        | yes r ↦ rw (eq-eqb k (b + 1) (omega arith)) (tt, omega arith)
        | no r ↦ rw (ne_eqb k (b + 1) (λ e. omega arith)) (omega arith, omega arith)
      ])
      | no q ↦ let z : OfCtr b n k = inr (omega arith) in rw (not-mac b n k z) (ctr-back F k z l h)
    ]
    | no p ↦ let z : OfCtr b n k = inl (omega arith) in rw (not-mac b n k z) (ctr-back F k z l h)
  ]

-- ---- each pair of masks has bytes of its own: KE's, then KM's, then call by call and round by round, up to the need

pub key-low : (c : Call) → key_at c + pair_size ≤ 2 * pair_size
key-low (ctr j) = omega arith
key-low sub = omega arith
key-low (mac j) = omega arith

pub keys-apart : (j : ℕ) → key_at (ctr j) + pair_size ≤ key_at sub
keys-apart j = omega arith

module _ (J : Job) where
  pub keys-before : (c : Call) (k r : ℕ) → key_at c + pair_size ≤ pair_at (job_calls J) k r
  keys-before c k r = omega (arith, key-low c)

  pub rounds-apart : (k r q : ℕ) → 1 ≤ r → r < q → pair_at (job_calls J) k r + pair_size ≤ pair_at (job_calls J) k q
  rounds-apart k r q h l = omega arith

  pub calls-apart : (k r l q : ℕ) → 1 ≤ k → k < l → 1 ≤ r → r ≤ pair_count → pair_at (job_calls J) k r + pair_size ≤ pair_at (job_calls J) l q
  calls-apart k r l q h d r₁ rₙ = omega arith

  pub masks-end : pair_at (job_calls J) (job_calls J).count pair_count + pair_size ≡ tape_need J.size
  masks-end = omega arith
