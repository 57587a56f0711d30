-- Laws of a piece of a file, taken whole.
use mathlib.Core.Path.{◌≡◌}
use mathlib.Core.List.{List, ◌++◌}
use Prim.Native.Nat.{ℕ, ◌-◌, ◌<◌}
use lib.ListN.{length, take, drop}
use Rattle.totals.specs.declared.Totals.{Totals}
use Rattle.tally.specs.declared.FeedResult.{FeedResult}
use Rattle.tally.specs.Tally.{Stands, TallyFeedContract}
use Rattle.tally.proofs.Files.{piece-some}

-- where some of a piece is left a call uses some of it, so it can't be that none was used
pub some_used : (totals : Totals) (seen piece : List ℕ) (used : ℕ) (fed : FeedResult) (held' : List ℕ) → used < length piece
    → TallyFeedContract totals (seen ++ take used piece) (take (length piece - used) (drop used piece)) fed held' → fed.used ≡ 0 → Stands totals (seen ++ piece) fed.tally held'
some_used totals seen piece used fed held' more F none = absurd (piece-some totals seen piece used fed held' more F none)
