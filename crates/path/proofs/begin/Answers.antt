-- `begin` meets its contract: the masks of KE, then those of KM. Assumes nothing.
use Rattle.prelude.proofs.{refl, ap, ◌∙◌, ◌+◌}
use Rattle.masking.specs.Shares.{add, shares_in, at, pair_size, masks_at}
use Rattle.shares.specs.declared.Tape.{Tape}
use Rattle.path.proofs.begin.Goals as goal

pub returns : goal.returns
returns c =
    let first = c.mask_key-e.ensures in
    let second = c.mask_key-m.ensures in
    let read = ap (λ (t : Tape). record { bytes = t.bytes; used = t.used + pair_size }) first.drawn in
    record {
      e = first.keyed;
      m = second.keyed ∙ ap (λ (t : Tape). add (shares_in c.args.km) (masks_at (at t.bytes.now) t.used)) first.drawn;
      calls = refl;
      bytes = ap (λ (t : Tape). t.bytes.now) (second.drawn ∙ read);
      used = ap (λ (t : Tape). t.used) (second.drawn ∙ read);
      watch = refl;
    }
