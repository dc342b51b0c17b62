-- `run` meets its contract: the masked keys, CTR's calls, CMAC's calls. Assumes nothing.
use Rattle.prelude.proofs.{refl, sym, ap, subst, ℕ, arith, length}
use Rattle.masking.specs.Shares.{at}
use Rattle.walks.proofs.Walking.{walked_at}
use Rattle.calls.specs.{Numbered.mac-behind, Job.Job, Sealed.sealing_job}
use Rattle.path.specs.Path.{IsJob, JobWalked}
use Rattle.path.proofs.Walking.{sealing-held}
use Rattle.path.proofs.run.Goals as goal

pub returns : goal.returns
returns c =
    let K = c.begin.ensures in
    let a = c.args in
    let n = a.nonce in
    let M = at a.tape.now in
    let J : Job = sealing_job a.ke a.km n.number n.sequence a.message.now in
    let I : IsJob J n.number n.sequence (length a.message.now) =
    record { number = refl; sequence = refl; size = refl; fills = mac-behind refl refl } in
    let begun : JobWalked J M a.watch 0 c.begin.result.walk = record {
      calls = K.calls;
      used = omega (arith, K.used);
      reads = ap at K.bytes;
      watch = K.watch;
      saw = λ l h. absurd (omega arith);
    } in
    let sized = subst (λ (z : ℕ). IsJob J n.number n.sequence z) (ap length (sym c.message.view_is)) I in
    let crypted = c.ctr_calls.ensures.job J M a.watch sized K.e begun in
    let coded = c.mac_calls.ensures.job J M a.watch I K.m (sealing-held M _ _ _ _ _ _ crypted.1)
    (walked_at _ _ _ _ (omega arith) crypted.0) in
    record { walked = walked_at _ _ _ _ (omega arith) coded.0; tag = coded.1; held = crypted.1 }
