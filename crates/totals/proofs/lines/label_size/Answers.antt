use mathlib.Core.Path.{refl}
use Rattle.totals.proofs.lines.Lines.{label_typed}
use Rattle.totals.proofs.lines.label_size.Goals as goal

pub returns : goal.returns
returns c = label_typed _ _ _ _ c.requires refl c.label.ensures
