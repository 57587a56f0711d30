use mathlib.Core.Path.{◌≡◌, ap, ◌∙◌}
use Prim.Native.Nat.{ℕ, ◌+◌, ◌-◌, ◌*◌, ◌≤◌}
use native.Mathlib.Omega.{arith}
use lib.ListN.{length}
use borrow.Rule.Slice.PartMut.{mid_of}
use Rattle.surface.proofs.Parts.{length_mid}
use Rattle.row_pixels.proofs.RowColours.Parts.{part_fetched}
use Rattle.fetch_rows.proofs.fetch_row.Goals as goal

pub overflow_mul-end : goal.overflow_mul-end
overflow_mul-end c =
    omega (arith, ap (λ (n : ℕ). c.args.width * n) c.bytes.ensures, c.requires.0)

pub overflow_add-end : goal.overflow_add-end
overflow_add-end c =
    omega (arith, ap (λ (n : ℕ). c.args.width * n) c.bytes.ensures, c.requires.0)

pub slice_bounds-widen-end-2 : goal.slice_bounds-widen-end-2
slice_bounds-widen-end-2 c =
    omega (arith, ap (λ (n : ℕ). c.args.width * n) c.bytes.ensures, c.requires.0)

pub widen-requires : goal.widen-requires
widen-requires c =
    let b = c.bytes in
    let a = c.args in
    let e = ap (λ (n : ℕ). a.width * n) b.ensures in
    let n : ℕ = a.width * 4 - 0 in
    let k : ℕ = a.start + a.width * b.result - a.start in
    let fits : a.start + k ≤ length a.memory.now = omega (arith, e, c.requires.0) in
    (omega (arith, length_mid 0 n a.buffer.now (omega (arith, c.requires.1))), omega (arith, e, length_mid a.start k a.memory.now fits))

pub returns : goal.returns
returns c =
    let f = c.widen in
    let b = c.bytes in
    let a = c.args in
    let n : ℕ = a.width * 4 - 0 in
    let k : ℕ = a.start + a.width * b.result - a.start in
    let long : length (mid_of 0 n a.buffer.now) ≡ n = length_mid 0 n a.buffer.now (omega (arith, c.requires.1)) in
    part_fetched a.format a.memory.now a.buffer.now f.new.buffer a.start a.width k n
    (omega (arith, ap (λ (n : ℕ). a.width * n) b.ensures)) (omega arith) c.requires.1 (f.auto.buffer ∙ long) f.ensures
