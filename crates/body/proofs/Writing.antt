-- A body and the values of a mark, written part by part. Assumes nothing.
use Rattle.prelude.proofs.{◌≡◌, refl, sym, ap, ◌∙◌, List, ◌++◌, append_assoc, ℕ, suc, ◌+◌, ◌^◌, ◌≤◌, length, length-append}
use Rattle.prelude.proofs.{arith, cond, ◌/◌, ◌%◌, ℤ, pos}
use Rattle.blocks.specs.Bytes.{put, big_endian}
use Rattle.blocks.proofs.Parts.{put-put}
use Rattle.blocks.proofs.Numbers.{big_endian-length}
use Rattle.body.specs.Signed.{residue}
use Rattle.body.specs.Words.{fields}
use Rattle.body.specs.Mark.{word_bytes, offset_word, written, offset_values, values}
use Rattle.body.specs.declared.Mark.{Mark}
use Rattle.std.specs.Prelude.{Option, Some, None, is_some, unwrap_or}
use Rattle.std.specs.Int.{from_bool}

-- ys behind xs
pub behind : (n : ℕ) (xs ys o : List ℕ) {out next : List ℕ} → out ≡ put 0 xs o → n ≡ length xs → n ≤ length o → next ≡ put n ys out
    → next ≡ put 0 (xs ++ ys) o
behind n xs ys o e l h d = d ∙ ap (put n ys) e ∙ put-put 0 xs ys o n (omega arith) (omega arith)

-- numbers of u and v bytes, and ds behind them
module _ (u v x y : ℕ) (ds o : List ℕ) (h : u + v ≤ length o) {a b : List ℕ}
    (ea : a ≡ put 0 (big_endian u x) o) (eb : b ≡ put u (big_endian v y) a) where
  pub two-and : {c : List ℕ} → c ≡ put (u + v) ds b → c ≡ put 0 (big_endian u x ++ (big_endian v y ++ ds)) o
  two-and ec =
      behind (u + v) _ ds o (behind u _ _ o ea (sym (big_endian-length u x)) (omega arith) eb)
      (simp (length-append, big_endian-length)) (omega arith) ec
      ∙ ap (λ (l : List ℕ). put 0 l o) (append_assoc (big_endian u x) (big_endian v y) ds)

-- of u, v and w
pub three-and : (u v w x y z : ℕ) (ds o : List ℕ) → u + v + w ≤ length o → {a b c d : List ℕ}
    → a ≡ put 0 (big_endian u x) o → b ≡ put u (big_endian v y) a → c ≡ put (u + v) (big_endian w z) b → d ≡ put (u + v + w) ds c
    → d ≡ put 0 (big_endian u x ++ (big_endian v y ++ (big_endian w z ++ ds))) o
three-and u v w x y z ds o h ea eb ec ed =
    behind (u + v + w) _ ds o (two-and u v x y (big_endian w z) o (omega arith) ea eb ec)
    (simp (length-append, big_endian-length) (omega arith)) (omega arith) ed
    ∙ ap (λ (l : List ℕ). put 0 l o) (append_assoc (big_endian u x) (big_endian v y ++ big_endian w z) ds
    ∙ ap (λ (l : List ℕ). big_endian u x ++ l) (append_assoc (big_endian v y) (big_endian w z) ds))

pub written-length : (m : Mark) → length (written m) ≡ 12 + length (offset_word m.offset)
written-length m = simp (length-append, big_endian-length) (omega arith)

pub written_size : (m : Mark) → length (written m) ≡ cond (is_some m.offset) 16 12
written_size m = written-length m ∙ by m.offset
  where
    by : (t : Option ℤ) → 12 + length (offset_word t) ≡ cond (is_some t) 16 12
    by None = refl
    by (Some z) = ap (λ (n : ℕ). 12 + n) (big_endian-length 4 _)

-- the values say an offset in five bytes, and are 17
offset-length : (s : Option ℤ) → length (offset_values s) ≡ 5
offset-length None = ap suc (big_endian-length 4 0)
offset-length (Some z) = ap suc (big_endian-length 4 _)

pub values_length : (m : Mark) → length (values m) ≡ 17
values_length m = simp (length-append, big_endian-length, offset-length)

-- whether there is an offset, as a number, and the offset or else 0
pub offset-parts : (t : Option ℤ) (g r : ℕ) → g ≡ from_bool (is_some t) → r ≡ residue (2 ^ 32) (unwrap_or t (pos 0))
    → big_endian 1 g ++ big_endian 4 r ≡ offset_values t
unfolding big_endian
offset-parts None g r e d = λ i. big_endian 1 (e i) ++ big_endian 4 (d i)
offset-parts (Some z) g r e d = λ i. big_endian 1 (e i) ++ big_endian 4 (d i)

-- the three words of a mark, and ds behind them
pub written-parts : (m : Mark) (f : ℕ) (ds o : List ℕ) {a b c d : List ℕ} → a ≡ put 0 (word_bytes 1 (m.seconds / fields)) o
    → b ≡ put 4 (word_bytes 2 (m.seconds % fields)) a → c ≡ put 8 (word_bytes 3 f) b → d ≡ put 12 ds c → 12 ≤ length o
    → f ≡ m.fraction → ds ≡ offset_word m.offset → d ≡ put 0 (written m) o
written-parts m f ds o ea eb ec ed h ef es =
    three-and 4 4 4 _ _ _ ds o h ea eb ec ed
    ∙ λ i. put 0 (word_bytes 1 (m.seconds / fields) ++ (word_bytes 2 (m.seconds % fields) ++ (word_bytes 3 (ef i) ++ es i))) o
