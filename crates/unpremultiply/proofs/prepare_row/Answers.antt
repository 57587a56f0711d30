use Rattle.unpremultiply.proofs.Pixels.{prepared, unprepared}
use Rattle.unpremultiply.proofs.prepare_row.Goals as goal

pub returns-then-premultiplied : goal.returns-then-premultiplied
returns-then-premultiplied c = prepared _ _ _ _ c.if-premultiplied.true c.divide_row.ensures

pub returns-else-premultiplied : goal.returns-else-premultiplied
returns-else-premultiplied c = unprepared _ _ _ c.if-premultiplied.false
