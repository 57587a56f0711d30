use native.Mathlib.Omega.{arith}
use Rattle.row_pixels.proofs.RowColours.Parts.{copied-row}
use Rattle.fetch_rows.proofs.widen.Goals as goal

pub copy-requires : goal.copy-requires
copy-requires c =
    omega (arith, c.requires.0, rw c.in-Argb8888.is at c.requires.1)

pub returns-in-Argb8888 : goal.returns-in-Argb8888
returns-in-Argb8888 c =
    let a = c.args in
    let f = c.copy in
    rw c.in-Argb8888.is
    (copied-row a.row.now a.buffer.now f.new.d a.width
    (λ j. omega (arith, c.shared_slice_known-1.given j)) (λ j. omega (arith, c.slice_known-1.given j)) (λ j. omega (arith, c.slice_known-in-Argb8888-1.given j))
    (rw c.in-Argb8888.is at c.requires.1) c.requires.0 f.auto.d f.ensures)

pub from_888-requires : goal.from_888-requires
from_888-requires c =
    rw c.in-Rgb888.is at c.requires

pub returns-in-Rgb888 : goal.returns-in-Rgb888
returns-in-Rgb888 c = rw c.in-Rgb888.is c.from_888.ensures

pub from_565-requires : goal.from_565-requires
from_565-requires c =
    rw c.in-Rgb565.is at c.requires

pub returns-in-Rgb565 : goal.returns-in-Rgb565
returns-in-Rgb565 c = rw c.in-Rgb565.is c.from_565.ensures
