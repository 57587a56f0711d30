-- A NaN's bits are no score's.
use mathlib.Core.Path.{◌≡◌, refl, sym, ap, ◌∙◌}
use mathlib.Core.Bool.{Bool, true, false, not, ◌&&◌}
use Prim.Native.Nat.{ℕ, ◌%◌, ◌/◌}
use lib.Dec.{eqb, eqb→eq}
use lib.Ieee.{Float, nan, binary32, lt, eq, le, of_fields, of_bits, nan_bits}
use borrow.Author.Tests.{eqb-true, eqb-false, not-true}
use Rattle.word.proofs.Tests.{and-true}
use Rattle.score.specs.Coverage.{is_score, whole}
use Rattle.score.specs.ScoreWord.{is_score_word}

-- no order holds of NaN
nan-none : is_score nan ≡ false
unfolding is_score le lt eq
nan-none = refl

-- the exponent's field all ones, and other digits than zero
nan_fields : (s : Bool) (x t : ℕ) → x ≡ 255 → eqb t 0 ≡ false → of_fields binary32 s x t ≡ nan
unfolding of_fields
nan_fields s x t all some = rw (all, some)

pub nan-bad : (word : ℕ) → nan_bits binary32 word ≡ true → is_score_word word ≡ false
unfolding nan_bits of_bits is_score_word
nan-bad word e =
    let x : ℕ = word % 2147483648 / 8388608 in
    let t : ℕ = word % 8388608 in
    let both = and-true (eqb x 255) (not (eqb t 0)) e in
    ap is_score (nan_fields _ x t (eqb-true x 255 both.0) (not-true (eqb t 0) both.1)) ∙ nan-none
