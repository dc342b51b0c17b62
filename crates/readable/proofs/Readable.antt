-- A record passes its test exactly where no cause refuses it. Assumes nothing.
use Rattle.prelude.proofs.{◌≡◌, ap, Bool, not, List, [], ℕ, arith, eqb, length, eqb-true, ltb-false, not-false, le-ltb}
use Rattle.answers.specs.Answer.{done, Cause, number_of, NoneOf}
use Rattle.answers.proofs.First.{accepts-none, eq-not}
use Rattle.links.specs.Record.{longest, record_size, usable, link_in}
use Rattle.links.specs.declared.Form.{Form}
use Rattle.readable.specs.Readable.{Readable, record_causes, record_answer}

module _ (f : Form) (k : Bool) (n h : ℕ) (r : List ℕ) where
  -- ---- none applies exactly where it is readable

  pub readable-none : Readable f k n h r → (cs : List Cause) → NoneOf cs → NoneOf (record_causes f k n h r cs)
  readable-none R cs none =
      let s = R.sized in
      let long = le-ltb (length r) (record_size f 0) (omega arith) in
      let short = le-ltb (record_size f longest) (length r) s.high in
      (ap not R.keyed, (long, (short, (eq-not (link_in r) n R.link, none))))

  pub none-readable : (cs : List Cause) → NoneOf (record_causes f k n h r cs) → Readable f k n h r × NoneOf cs
  none-readable cs (u, (low, (high, (link, none)))) =
      let l = ltb-false (length r) (record_size f 0) low in (
        record {
          keyed = not-false (usable f k h) u;
          sized = record { low = omega arith; high = ltb-false (record_size f longest) (length r) high };
          link = eqb-true (link_in r) n (not-false (eqb (link_in r) n) link);
        },
        none,
      )

  -- ---- what passed its test

  pub passed-readable : record_answer f k n h r ≡ done [] → Readable f k n h r
  unfolding record_answer
  passed-readable e = (none-readable [] (accepts-none (record_causes f k n h r []) [] tt (ap number_of e))).0
