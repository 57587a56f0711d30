use mathlib.Core.Path.{refl, ap, ◌∙◌}
use Prim.Native.Nat.{ℕ, ◌/◌, ◌%◌, ◌≤◌}
use native.Mathlib.Omega.{arith}
use native.Mathlib.Numerals.{add-one}
use native.Mathlib.Nat.{pow-suc, div-div-eq-div-mul}
use lib.ListN.{length, length-set}
use borrow.Author.Rules.{rules}
use Rattle.word.specs.Word.{byte_of}
use Rattle.surface.proofs.Parts.{none_within, set-within, all-within}
use Rattle.surface.proofs.write_le_number.Goals as goal

pub loop-byte-init : goal.loop-byte-init
loop-byte-init c = (search rules, none_within 0 _ _, refl)

pub loop-byte-preserved : goal.loop-byte-preserved
unfolding byte_of
loop-byte-preserved c =
    let l = c.loop-byte in (
      ap (λ (n : ℕ). n / 256) l.invariant.0 ∙ rw (add-one, pow-suc, div-div-eq-div-mul),
      set-within 0 l.byte-index _ _ l.byte-items l.byte-index (l.rest % 256) l.invariant.1 (omega arith) (ap (λ (n : ℕ). n % 256) l.invariant.0),
      length-set l.byte-items l.byte-index (l.rest % 256) ∙ l.invariant.2,
    )

pub returns : goal.returns
returns c =
    let end : length c.args.bytes.now ≤ c.loop-byte.byte-index = omega arith in
    c.loop-byte.invariant.1 ∙ all-within _ _ c.loop-byte.byte-index end
