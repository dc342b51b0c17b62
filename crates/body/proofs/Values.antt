-- The values of a mark in its ranges say that mark. Assumes nothing.
use Rattle.prelude.proofs.{◌≡◌, refl, sym, ap, ◌∙◌, true, List, ◌++◌, ℕ, ◌*◌, ◌<◌, ◌^◌, arith, drop, get_or, ltb, ltb-true, ℤ}
use Rattle.blocks.specs.Bytes.{big_endian, value}
use Rattle.blocks.proofs.Parts.{parted}
use Rattle.blocks.proofs.Numbers.{big_endian-length, big_endian-says}
use Rattle.blocks.proofs.Same.{both_true}
use Rattle.body.specs.Signed.{residue, signed}
use Rattle.body.specs.Words.{fields}
use Rattle.body.specs.Mark.{offset_fits, fits, offset_values, values}
use Rattle.body.specs.declared.Mark.{Mark}
use Rattle.std.specs.Prelude.{Option, Some, None}
use Rattle.body.proofs.Signed.{residue-lt, signed-residue, offset-small}

-- what `fits` says
pub record Fitting (m : Mark) : Type 0 where
  pub seconds : m.seconds < fields * fields
  pub fraction : m.fraction < fields
  pub offset : offset_fits m.offset ≡ true

pub fitting : (m : Mark) → fits m ≡ true → Fitting m
fitting m e =
    let one = both_true (ltb m.seconds (fields * fields)) _ e in
    let two = both_true (ltb m.fraction fields) (offset_fits m.offset) one.1 in
    record { seconds = ltb-true _ _ one.0; fraction = ltb-true _ _ two.0; offset = two.1 }

-- numbers of w bytes, and what stands behind them
numbers-parted : (w x y : ℕ) (c d : List ℕ) → x < 256 ^ w → y < 256 ^ w → big_endian w x ++ c ≡ big_endian w y ++ d → (x ≡ y) × (c ≡ d)
numbers-parted w x y c d hx hy e =
    let both = parted (big_endian w x) (big_endian w y) c d (big_endian-length w x ∙ sym (big_endian-length w y)) e in
    (sym (big_endian-says w x hx) ∙ ap value both.0 ∙ big_endian-says w y hy, both.1)

offset-same : (s t : Option ℤ) → offset_fits s ≡ true → offset_fits t ≡ true → offset_values s ≡ offset_values t → s ≡ t
offset-same None None hs ht e = refl
offset-same None (Some z) hs ht e = absurd (let h : ◌≡◌ {A = ℕ} 0 1 = ap (λ (l : List ℕ). get_or l 0 0) e in omega arith)
offset-same (Some z) None hs ht e = absurd (let h : ◌≡◌ {A = ℕ} 1 0 = ap (λ (l : List ℕ). get_or l 0 0) e in omega arith)
offset-same (Some y) (Some z) hs ht e =
    let h = offset-small y hs in
    let l = offset-small z ht in
    let same : residue (2 ^ 32) y ≡ residue (2 ^ 32) z =
    sym (big_endian-says 4 _ (residue-lt (2 ^ 32) y (omega arith))) ∙ ap (λ (l : List ℕ). value (drop 1 l)) e
    ∙ big_endian-says 4 _ (residue-lt (2 ^ 32) z (omega arith)) in
    ap Some (sym (signed-residue (2 ^ 32) y (omega arith)) ∙ ap (signed (2 ^ 32)) same ∙ signed-residue (2 ^ 32) z (omega arith))

pub values-injective : (m n : Mark) → fits m ≡ true → fits n ≡ true → values m ≡ values n → m ≡ n
values-injective m n fm fn e =
    let f = fitting m fm in
    let g = fitting n fn in
    let sm = f.seconds in
    let sn = g.seconds in
    let one = numbers-parted 8 m.seconds n.seconds _ _ (omega arith) (omega arith) e in
    let pm = f.fraction in
    let pn = g.fraction in
    let two = numbers-parted 4 m.fraction n.fraction _ _ (omega arith) (omega arith) one.1 in
    let three = offset-same m.offset n.offset f.offset g.offset two.1 in
    λ i. record { seconds = one.0 i; fraction = two.0 i; offset = three i }
