use native.Mathlib.Omega.{arith}
use Rattle.row_pixels.proofs.RowColours.Parts.{copied-row}
use Rattle.scanline.proofs.blit_row.Goals as goal

pub copy-requires : goal.copy-requires
copy-requires c =
    omega (arith, rw c.in-Argb8888.is at c.requires.0, c.requires.1)

pub returns-in-Argb8888 : goal.returns-in-Argb8888
returns-in-Argb8888 c =
    let a = c.args in
    let f = c.copy in
    rw c.in-Argb8888.is
    (copied-row a.source.now a.row.now f.new.d a.width
    (λ j. omega (arith, c.shared_slice_known-1.given j)) (λ j. omega (arith, c.slice_known-1.given j)) (λ j. omega (arith, c.slice_known-in-Argb8888-1.given j))
    c.requires.1 (rw c.in-Argb8888.is at c.requires.0) f.auto.d f.ensures)

pub to_888-requires : goal.to_888-requires
to_888-requires c =
    rw c.in-Rgb888.is at c.requires

pub returns-in-Rgb888 : goal.returns-in-Rgb888
returns-in-Rgb888 c = rw c.in-Rgb888.is c.to_888.ensures

pub to_565-requires : goal.to_565-requires
to_565-requires c =
    rw c.in-Rgb565.is at c.requires

pub returns-in-Rgb565 : goal.returns-in-Rgb565
returns-in-Rgb565 c = rw c.in-Rgb565.is c.to_565.ensures
