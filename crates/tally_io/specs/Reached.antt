-- Internal: a tally that has read some bytes of a file. Which they are no contract can say.
use Rattle.std.specs.Prelude.{List, ℕ}
use Rattle.command.specs.Orders.{Reflexive, Transitive}
use Rattle.totals.specs.declared.Totals.{Totals}
use Rattle.tally.specs.declared.Tally.{Tally}
use Rattle.tally.specs.Tally.{Stands}
use Rattle.tally_io.specs.declared.Reading.{Reading}

pub record Reached (totals : Totals) (t : Tally) (held : List ℕ) : Type 0 where
  pub seen : List ℕ
  pub stands : Stands totals seen t held

-- so it is after more bytes, if it was so before
abbrev pub Leads : Reading → Reading → Type 0
Leads a b = (totals : Totals) → Reached totals a.tally a.held → Reached totals b.tally b.held

pub stays : Reflexive Leads
stays a totals r = r

pub goes_on : Transitive Leads
goes_on a b c f g totals r = g totals (f totals r)
