-- When sealing and the report are done: no cause of a refusal applies. Assumes nothing.
use Rattle.prelude.proofs.{◌≡◌, sym, ap, ◌∙◌, subst, true, not, List, [], ◌∷◌, ℕ, ◌+◌, ◌^◌, ◌≤◌, ◌<◌, arith, length, ltb-false}
use Rattle.prelude.proofs.{eqb-false, not-false, le-ltb, eq-eqb, ne_eqb}
use Rattle.blocks.specs.Bytes.{block_count}
use Rattle.answers.specs.Answer.{Cause, done, first, number_of, NoneOf}
use Rattle.answers.proofs.First.{done_none, none-append, none-parts, done-before, accepts-none, none-accepts}
use Rattle.links.specs.Record.{sequence_most, greatest, usable, longest, record_size}
use Rattle.links.specs.{Links.sender_form, declared.Form.Form, declared.Sender.Sender}
use Rattle.links.proofs.Widths.{greatest-most, usable-exactly}
use Rattle.plain.specs.Entry.{plain_keys, plain_causes, plain_answer}
use Rattle.masking.specs.Call.{pair_count}
use Rattle.runs.specs.Lanes.{lane_size, lane_causes, TellsNumber}
use Rattle.runs.proofs.Lanes.{none-exactly, tells-number}
use Rattle.calls.specs.Entry.{input_causes, room_causes, seal_causes, seal_answer, report_answer}
use Rattle.calls.specs.{Numbered.call_count, Numbered.tape_need, Demand.Accepted}

-- what sealing and the report ask alike
pub record Sealable (x : Sender) (m t : List ℕ) : Type 0 where
  pub keyed : x.keyed ≡ true
  pub left : x.last < greatest (sender_form x)
  pub small : length m ≤ longest
  pub long : tape_need (length m) ≤ length t

module _ (x : Sender) (m t : List ℕ) where
  abbrev f : Form
  f = sender_form x

  pub sealable-none : Sealable x m t → NoneOf (input_causes x m t [])
  sealable-none S =
      let left = S.left in (
        ap not ((usable-exactly f x.keyed x.last).1 (S.keyed, omega arith)),
        (
          ne_eqb x.last (greatest f) (λ e. omega arith),
          (le-ltb longest (length m) S.small, (le-ltb (length t) (tape_need (length m)) S.long, tt)),
        ),
      )

  pub none-sealable : NoneOf (input_causes x m t []) → Sealable x m t
  none-sealable (keyed, (left, (small, (long, none)))) =
      let u = (usable-exactly f x.keyed x.last).0 (not-false (usable f x.keyed x.last) keyed) in
      let n = eqb-false x.last (greatest f) left in
      record {
        keyed = u.0;
        left = omega (arith, u.1);
        small = ltb-false longest (length m) small;
        long = ltb-false (length t) (tape_need (length m)) long;
      }

  -- by the answer of their test
  pub passed-sealable : first (input_causes x m t []) (done []) ≡ done [] → Sealable x m t
  passed-sealable e = none-sealable (accepts-none (input_causes x m t []) [] tt (ap number_of e))

  -- the next number has a place in a counter block
  pub next_fits : Sealable x m t → x.last + 1 < 256 ^ sequence_most
  next_fits S = let left = S.left in let most = greatest-most x.width in omega arith

  -- ---- sealing

  pub accepted : (o : ℕ) → Sealable x m t → record_size f (length m) ≤ o → Accepted x m t o
  unfolding seal_answer
  accepted o S h =
      none-accepts (seal_causes x m t o) _
      (none-append (input_causes x m t []) (room_causes x m o) (sealable-none S) (le-ltb o (record_size f (length m)) h, tt))

  module _ (o : ℕ) (A : Accepted x m t o) where
    none : NoneOf (seal_causes x m t o)
    unfolding seal_answer
    none = accepts-none (seal_causes x m t o) _ tt A

    -- it returns the length of the record and the tape bytes read
    pub accepted-values : seal_answer x m t o ≡ done (record_size f (length m) ∷ tape_need (length m) ∷ [])
    unfolding seal_answer
    accepted-values = done_none (seal_causes x m t o) _ none

    pub sealable : Sealable x m t
    sealable = none-sealable (none-parts (input_causes x m t []) (room_causes x m o) none).0

    pub room : record_size f (length m) ≤ o
    room = ltb-false o (record_size f (length m)) (none-parts (input_causes x m t []) (room_causes x m o) none).1.0

    -- plain sealing is done as well
    pub plain_done : (keys : List ℕ) (s : ℕ) → length keys ≡ plain_keys → 0 < s → s ≤ greatest f
        → plain_answer f keys s m o ≡ done (record_size f (length m) ∷ [])
    unfolding plain_answer
    plain_done keys s e h g =
        let keyed = ap not (eq-eqb (length keys) plain_keys e) in
        let low = ne_eqb s 0 (λ z. omega arith) in
        let high = le-ltb (greatest f) s g in
        let short = le-ltb longest (length m) sealable.small in
        done_none (plain_causes f keys s m o) _ (keyed, (low, (high, (short, (le-ltb o (record_size f (length m)) room, tt)))))

  -- ---- the report

  module _ (k r i o : ℕ) (S : Sealable x m t) where
    abbrev causes : List Cause
    causes = lane_causes (call_count (block_count (length m))) pair_count k r i o

    -- its answer hangs on the numbers of the lane and on the room
    pub report-answer : report_answer x m t k r i o ≡ first causes (done [])
    unfolding report_answer
    report-answer =
        let cs = input_causes x m t [] in (done-before cs causes [] [] (done []) (done_none cs (done []) (sealable-none S))).1

    pub report-tells : TellsNumber (call_count (block_count (length m))) pair_count k r i o (report_answer x m t k r i o)
    report-tells = subst (TellsNumber _ pair_count k r i o) (sym report-answer) (tells-number _ pair_count k r i o)

    pub reported : 1 ≤ k → k ≤ call_count (block_count (length m)) → 1 ≤ r → r ≤ pair_count → i < 3 → lane_size ≤ o
        → report_answer x m t k r i o ≡ done []
    reported k₁ kₙ r₁ rₙ l h =
        report-answer
        ∙ done_none causes (done []) ((none-exactly _ pair_count k r i o).1 ((k₁, kₙ), ((r₁, rₙ), ((omega arith, omega arith), h))))
