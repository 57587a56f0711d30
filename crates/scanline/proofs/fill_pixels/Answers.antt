use mathlib.Core.Path.{◌≡◌, refl, ◌∙◌}
use Prim.Native.Nat.{◌+◌, ◌*◌, ◌≤◌}
use native.Mathlib.Omega.{arith}
use lib.ListN.{length}
use Rattle.pixel.specs.Formats.{bytes_per_pixel}
use Rattle.surface.proofs.Rows.{next}
use Rattle.fetch_rows.proofs.words.RowPrefix.{none-begun, prefix-step, prefix-all}
use Rattle.scanline.proofs.fill_pixels.Goals.{In-loop-x}
use Rattle.scanline.proofs.fill_pixels.Goals as goal

pub loop-x-init : goal.loop-x-init
loop-x-init c = (none-begun _ _ _, refl)

-- the pixel x lies in the row
fits : (c : In-loop-x) → c.loop-x.x * bytes_per_pixel c.args.format + bytes_per_pixel c.args.format ≤ length c.loop-x.row
fits c =
    let a = c.args in
    omega (arith, next c.loop-x.x a.width (bytes_per_pixel a.format) c.loop-x-test.true, c.loop-x.invariant.1, c.requires)

pub store-requires : goal.store-requires
store-requires c = rw c.bytes-bytes.ensures (fits (goal.at.store-requires c).In-loop-x)

pub overflow_mul-x : goal.overflow_mul-x
overflow_mul-x c =
    rw c.bytes-bytes.ensures (omega (arith, fits (goal.at.overflow_mul-x c).In-loop-x, c.loop-x.invariant.1))

pub loop-x-preserved : goal.loop-x-preserved
loop-x-preserved c =
    let l = c.loop-x in
    let a = c.args in
    let s = c.store in (
      prefix-step a.format (λ x. a.c) a.row.now l.row s.new.memory l.x _ a.c (rw c.bytes-bytes.ensures) refl l.invariant.0 s.ensures,
      s.auto.memory ∙ l.invariant.1,
    )

pub returns : goal.returns
returns c =
    let l = c.loop-x in
    let e : l.x ≡ c.args.width = omega arith in
    prefix-all c.args.format _ c.args.row.now l.row c.args.width c.requires (rw e at l.invariant.0)
