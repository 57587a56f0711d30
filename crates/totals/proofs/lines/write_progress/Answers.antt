use Rattle.totals.specs.Lines.{progress_text}
use Rattle.totals.proofs.lines.Lines.{typed_three, typed_then, progress_size}
use Rattle.totals.proofs.lines.write_progress.Goals as goal

pub returns : goal.returns
unfolding progress_text
returns c =
    let files = c.decimal-a.ensures in
    let of = c.decimal-c.ensures in
    let pushed = rw c.last_byte.ensures at c.push.ensures in
    (typed_then _ _ _ _ _ files.0 (typed_then _ _ _ _ _ c.append-b.ensures (typed_three _ _ _ _ _ _ _ of.0 c.append-d.ensures pushed)), progress_size _ _ files.1 of.1)
