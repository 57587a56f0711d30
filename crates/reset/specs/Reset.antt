-- The reset rule (02, request 2: "the reset rule, one of these two, becomes part of set up and of the record").
use Rattle.std.specs.Prelude.{ℕ, Bool, ◌||◌, cond, eqb}
use Rattle.reset.specs.declared.ResetRule.{ResetRule}
use Rattle.reset.specs.declared.ResetRule.TheVariants.{Unblended, SrcOver}

-- what 0x090 holds at the start of every batch: 01's reset value, factors 2 and 3 and blending off (002 prints 0 for the word and 2 and 3 for its
-- fields; the fields decide), or SRC_OVER and blending on ("New engines reset it to 0x00000B01")
abbrev pub blending_at_reset : ResetRule → ℕ
blending_at_reset Unblended = 0x00001300
blending_at_reset SrcOver = 0x00000B01

-- ---- the rule as a number

abbrev pub reset_number_of : ResetRule → ℕ
reset_number_of Unblended = 0
reset_number_of SrcOver = 1

abbrev pub is_rule_number : ℕ → Bool
is_rule_number number = eqb number 0 || eqb number 1

-- the rule of any number, so that a caller who gives it as a number can ask for no third one
abbrev pub rule_of : ℕ → ResetRule
rule_of number = cond (eqb number 0) Unblended SrcOver
