use mathlib.Core.Path.{sym, ◌∙◌}
use mathlib.Core.List.{List}
use Prim.Native.Nat.{ℕ, ◌≤◌}
use native.Mathlib.Omega.{arith}
use lib.ListN.{get_or}
use mir.Syntax.{w64}
use mir.Val.{Fits}
use Rattle.totals.specs.Totals.{largest}
use Rattle.totals.specs.Reading.{FourteenCounts}
use Rattle.totals.proofs.lines.Lines.{lines_turn, lines_none, lines-size}
use borrow.Author.Rules.{rules, elem_Fits}
use Rattle.totals.proofs.lines.count_lines.Goals as goal

-- a number of 64 bits
small : (xs : List ℕ) (k : ℕ) → Fits w64 (get_or xs k 0) → get_or xs k 0 ≤ largest
small xs k h = omega arith

pub loop-k-preserved : goal.loop-k-preserved
loop-k-preserved c =
    let l = c.loop-k in
    record {
      same_length = search rules;
      sized = l.invariant.sized;
      typed = l.invariant.typed ∙ lines_turn _ l.k (omega (arith, c.loop-k-test.true, l.invariant.sized)) _ _ c.count_line-end.ensures;
    }

pub returns : goal.returns
returns c =
    let l = c.loop-k in
    let counts : FourteenCounts c.args.counts = record { size = l.invariant.sized; small = λ k. small c.args.counts k (elem_Fits w64 w64 c.args.counts c.well_formed.1.0.0 k c.well_formed.1.0.1.1 tt) } in
    (sym (l.invariant.typed ∙ lines_none _ _ l.k (omega (arith, l.invariant.sized, c.loop-k-test.false))), lines-size _ counts, counts)
