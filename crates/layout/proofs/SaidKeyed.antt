-- When the link that bytes say counts as keyed, of either kind of link: exactly where the bytes' own numbers say so.
-- Assumes nothing.
use Rattle.prelude.proofs.{◌≡◌, refl, sym, ◌∙◌, ◌↔◌, Bool, true, false, cond, ◌&&◌, ap₂, List, ℕ, zero, suc, ◌^◌, ◌≤◌, ◌<◌, arith}
use Rattle.prelude.proofs.{eqb, leb, length, get_or, eq-eqb, eqb-true, leb-true}
use Rattle.blocks.specs.Bytes.{Bytes}
use Rattle.blocks.proofs.{Numbers.part-lt, Same.both_true}
use Rattle.links.specs.Record.{greatest, usable, told, form_of}
use Rattle.links.proofs.Widths.{usable-exactly}
use Rattle.layout.specs.Layout.{last_size, last_at, keys_at, keyed_in, last_in, width_in, sound}
use Rattle.layout.specs.Keyed.{SaysKeyed}
use Rattle.layout.proofs.LinkBytes.{is-sound}

-- of the numbers that eight bytes say, those of a link told w are all, or where w is 0 those of 32 bits
numbers-told : (w n : ℕ) → n < 256 ^ last_size → n ≤ greatest (form_of (told w)) ↔ (w ≡ 0 → n ≤ 4294967295)
numbers-told zero n h = (λ g e. g, λ g. g refl)
numbers-told (suc w) n h = (λ g e. absurd (omega arith), λ g. omega arith)

-- of two things, the first where a test holds; the second never counts
chosen : {A : Type 0} (U : A → Bool) {x y : A} {c : Bool} → U x ≡ c → U y ≡ false → (t : Bool) → U (cond t x y) ≡ (t && c)
chosen U e f true = e
chosen U e f false = f

module _ (size p : ℕ) (b : List ℕ) (h : Bytes b) (fits : keys_at ≤ size) where
  -- what of the bytes counts as keyed
  abbrev counts : Bool
  counts = usable (form_of (width_in p b)) (keyed_in b) (last_in b)

  last-lt : length b ≡ size → last_in b < 256 ^ last_size
  last-lt e = part-lt last_at last_size b h (omega arith)

  -- of the link that the bytes say where they can say one, and of a fresh one, which never counts as keyed
  pub said-keyed : {A : Type 0} (U : A → Bool) {there fresh : A} → U there ≡ counts → U fresh ≡ false
      → U (cond (sound size p b) there fresh) ≡ true ↔ SaysKeyed size p b
  said-keyed U e f = let c = chosen U e f (sound size p b) in (λ k. tests-say (sym c ∙ k), λ K. c ∙ say-tests K)
    where
      tests-say : (sound size p b && counts) ≡ true → SaysKeyed size p b
      tests-say e =
          let t = both_true (sound size p b) counts e in
          let s = both_true (eqb (length b) size) (leb (get_or b p 0) 1) t.0 in
          let long = eqb-true (length b) size s.0 in
          let u = (usable-exactly (form_of (width_in p b)) (keyed_in b) (last_in b)).0 t.1 in
          record {
            long = long;
            keyed = eqb-true (get_or b 0 0) 1 u.0;
            width = leb-true (get_or b p 0) 1 s.1;
            number = (numbers-told (get_or b p 0) (last_in b) (last-lt long)).0 u.1;
          }

      say-tests : SaysKeyed size p b → (sound size p b && counts) ≡ true
      say-tests K =
          ap₂ ◌&&◌ (is-sound size p b K.long K.width)
          ((usable-exactly (form_of (width_in p b)) (keyed_in b) (last_in b)).1
          (eq-eqb (get_or b 0 0) 1 K.keyed, (numbers-told (get_or b p 0) (last_in b) (last-lt K.long)).1 K.number))
