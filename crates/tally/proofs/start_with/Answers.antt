use mathlib.Core.Path.{◌≡◌}
use mathlib.Core.List.{List}
use Prim.Native.Nat.{ℕ, ◌≤◌}
use native.Mathlib.Omega.{arith}
use lib.ListN.{get_or}
use mir.Syntax.{w64}
use mir.Val.{Fits}
use borrow.Author.Rules.{elem_Fits}
use Rattle.totals.specs.Totals.{largest}
use Rattle.tally.specs.Counts.{position}
use Rattle.tally.proofs.Files.{starts_by}
use Rattle.tally.proofs.start_with.Goals as goal

-- a number of 64 bits
small : (xs ys : List ℕ) (k : ℕ) → ys ≡ xs → Fits w64 (get_or xs k 0) → get_or ys k 0 ≤ largest
small xs ys k is h = rw is (omega arith)

pub returns : goal.returns
returns c = λ is.
    (rw (c.start.ensures, is), λ held room. starts_by _ _ held (rw is c.well_formed.1.0.1.0.1) (λ count. small c.args.counts _ (position count) is (elem_Fits w64 w64 c.args.counts c.well_formed.1.0.0 (position count) c.well_formed.1.0.1.1 tt)) (rw (c.start.ensures, is)) room)
