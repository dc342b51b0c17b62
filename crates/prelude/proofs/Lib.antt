-- The library's names that the proofs use, each under its own name: a proof file brings them in from here.
pub use mathlib.Core.Path.{◌≡◌, refl, sym, ap, ◌∙◌, subst, ap₂, subst⁻¹, fun_ext}
pub use mathlib.Core.Logic.Iff.{and as Iff-and}
pub use mathlib.Core.Logic.Iff.{trans as Iff-trans}
pub use mathlib.Core.Logic.{◌↔◌, ⊎_elim, inl, inr}
pub use mathlib.Core.Bool.{Bool, true, false, not, cond, ◌&&◌, and_comm, beq as Bool-beq, and-true, and-false, and_assoc, false≢true}
pub use mathlib.Core.Bool.{◌||◌, or-true, or-false, or_assoc, or_comm}
pub use mathlib.Core.List.{List, [], ◌∷◌, ◌++◌, append_assoc, append-nil, map}
pub use mathlib.Core.List.Permᴰ.{cons as Permᴰ-cons}
pub use mathlib.Core.List.Permᴰ.{nil as Permᴰ-nil}
pub use mathlib.Core.List.Permᴰ.{swap as Permᴰ-swap}
pub use mathlib.Core.List.Permᴰ.{trans as Permᴰ-trans}
pub use mathlib.Core.List.{Permᴰ}
pub use Prim.Native.Nat.{ℕ, zero, suc, ◌≤◌, ◌<◌, ◌+◌, ◌*◌, ◌-◌, ◌/◌, ◌%◌, ◌^◌, min, max}
pub use native.Mathlib.Nat.{lt_of_lt_of_le, mod-lt, zero-lt-suc, le_of_suc-le-suc, not-suc-le-zero, div-eq_of_lt, div-add-mod', mul_assoc}
pub use native.Mathlib.Nat.{pow-suc, div-one, lt_of_le_of_lt, div-le_self, le_trans, mod-eq_of_lt, pow-succ', pow-le-pow_right, add_comm}
pub use native.Mathlib.Nat.{zero-add, suc-add, one-le-pow, add-mul-div_right, div-div-eq-div-mul, add-zero, add_assoc, lt_of_not-le}
pub use native.Mathlib.Nat.{add-suc}
pub use native.Mathlib.Numerals.{add-one, one-add}
pub use native.Mathlib.Decide.{dec_lt, ℕ_discrete, dec_le}
pub use native.Mathlib.Omega.{arith}
pub use lib.Dec.{T, eqb, leb, ltb, ltb→lt, eqb→eq, leb→le, nleb→lt, nltb→le, eqb-suc-zero}
pub use lib.Bits.{bit_xor, bit_and, xor_shr, and_shr, xor_mod, and_mod, shifted_even, xor_lt, and_le_l, and_mask, mask_lt, xor_zero_r}
pub use lib.Bits.{xor_comm, xor_self, bit_or, or_shr, or_mod, or_lt}
pub use lib.Pow.{pow_mono, shr-shr, shr_lt, field, mod-mod-pow, pow-add, shl-shr, pow_pos}
pub use lib.Arith.{digits_div, digits_mod, digits_lt, lt-one, mod-mul}
pub use lib.ListN.{take, drop, get_or, length, length-append, length-take, get_or-append, set, replicate, length-drop, length-replicate}
pub use lib.ListN.{take-append-drop, replicate-append-replicate, length-set, get_or-eq_default}
pub use lib.Seq.{take-take, take-add, drop_at, length-take-le, ext_get_or, get_or-append-add, take_at, drop-drop, drop-append-add, drop-cons}
pub use lib.Seq.{get_or-set_same, get_or-set_other}
pub use lib.Seq.{set_at, drop-length, get_or-drop, take-suc, take-length, take_all, get_or-take, take-append-le, drop-append-le, length_front}
pub use mir.Syntax.{named, w8, w32, w64}
pub use mir.Val.{Val, vptr, Fits, SFits, to_z, of_z}
pub use mir.ValLaws.{to_z_pos, to_z-of_z}
pub use lib.IntN.{ℤ, pos, negsuc, ◌-ℤ◌, nat_abs}
pub use lib.Signed.{mag, le_z, lt_z, non_neg}
pub use borrow.Author.Rules.{rules}
pub use borrow.Author.Tests.{eq-eqb, ne_eqb, lt-ltb, le-ltb, le-leb, lt-leb, eqb-true, ltb-false, eqb-false, not-false, leb-false, ltb-true}
pub use borrow.Author.Tests.{not-true, leb-true}
pub use types.Run.{OneOf, miss}
pub use denote.Enum.Declared.{tag_of}
