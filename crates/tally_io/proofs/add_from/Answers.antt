use mathlib.Core.List.{[]}
use Rattle.std.proofs.Common.{replicate}
use Rattle.totals.proofs.Files.{file-none, file-some}
use Rattle.tally_io.specs.Reached.{Reached}
use borrow.Author.Rules.{rules}
use Rattle.tally_io.proofs.add_from.Goals as goal

pub returns-then-is_err : goal.returns-then-is_err
returns-then-is_err g c = file-none _ _ _ c.unread.ensures

pub returns : goal.returns
returns g c =
    let totals = c.args.totals in
    let start : Reached totals c.start-begun.result (replicate 32777 0) = record { seen = []; stands = c.start-begun.ensures.1 _ (search rules) } in
    let r = c.read_all.ensures totals start in
    file-some _ totals r.seen _ (c.finish.ensures.1 totals r.seen _ r.stands)
