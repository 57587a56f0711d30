use mathlib.Core.Path.{◌≡◌, sym, ◌∙◌}
use mathlib.Core.Bool.{false}
use lib.Ieee.{binary32, nan_bits}
use Rattle.score.specs.ScoreWord.{is_score_word}
use Rattle.score.proofs.bits.Bits.{nan-bad}
use Rattle.score.proofs.bits.is_score_word.Goals as goal

pub returns-then-is_nan : goal.returns-then-is_nan
returns-then-is_nan c = sym (nan-bad c.args.word (sym c.is_nan.ensures ∙ c.if-is_nan.true))

pub float_from_bits-word : goal.float_from_bits-word
float_from_bits-word c =
    let number : nan_bits binary32 c.args.word ≡ false = sym c.is_nan.ensures ∙ c.if-is_nan.false in
    rw number tt

pub returns : goal.returns
unfolding is_score_word
returns c = c.is_score.ensures
