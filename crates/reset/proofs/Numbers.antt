-- A rule's number is read back as that rule, and a number that is 0 or 1 is its rule's.
use mathlib.Core.Path.{◌≡◌, refl, sym}
use mathlib.Core.Bool.{Bool, true, false, ◌||◌, cond}
use Prim.Native.Nat.{ℕ}
use lib.Dec.{eqb}
use borrow.Author.Tests.{eqb-true}
use Rattle.reset.specs.declared.ResetRule.{ResetRule}
use Rattle.reset.specs.declared.ResetRule.TheVariants.{Unblended, SrcOver}
use Rattle.reset.specs.Reset.{reset_number_of, is_rule_number, rule_of}

pub rule-back : (rule : ResetRule) → rule_of (reset_number_of rule) ≡ rule
rule-back Unblended = refl
rule-back SrcOver = refl

pub number-back : (number : ℕ) → is_rule_number number ≡ true → reset_number_of (rule_of number) ≡ number
number-back number e = go (eqb number 0) refl e
  where
    go : (t : Bool) → eqb number 0 ≡ t → (t || eqb number 1) ≡ true → reset_number_of (cond t Unblended SrcOver) ≡ number
    go true zero e = sym (eqb-true number 0 zero)
    go false other e = sym (eqb-true number 1 e)

-- a rule's own number is one
pub own-number : (rule : ResetRule) → is_rule_number (reset_number_of rule) ≡ true
own-number Unblended = refl
own-number SrcOver = refl
