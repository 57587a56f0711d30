use Rattle.text.specs.Line.{line_of}
use Rattle.ppm.proofs.Shown.{typed_header}
use Rattle.ppm.proofs.picture.header.Goals as goal

pub returns : goal.returns
returns c =
    let a = c.args in
    cc (typed_header (line_of a.line.now 0) a.width a.height, c.decimal-b.ensures.0, c.decimal-d.ensures.0)
