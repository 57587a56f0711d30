use mathlib.Core.Path.{◌≡◌, ap, ◌∙◌}
use Prim.Native.Nat.{ℕ, ◌+◌, ◌-◌, ◌*◌, ◌≤◌}
use native.Mathlib.Omega.{arith}
use lib.ListN.{length}
use borrow.Rule.Slice.PartMut.{mid_of}
use Rattle.surface.proofs.Parts.{length_mid}
use Rattle.unblended_rows.proofs.row_copy.Bytes.{pixels_copied}
use Rattle.unblended_rows.proofs.row_copy.load_row.Goals as goal

pub overflow_mul-n : goal.overflow_mul-n
overflow_mul-n c =
    omega (arith, ap (λ (n : ℕ). c.args.width * n) c.bytes.ensures, c.requires.0)

pub overflow_add-end : goal.overflow_add-end
overflow_add-end c =
    omega (arith, ap (λ (n : ℕ). c.args.width * n) c.bytes.ensures, c.requires.0)

pub slice_bounds-copy-end : goal.slice_bounds-copy-end
slice_bounds-copy-end c =
    omega (arith, ap (λ (n : ℕ). c.args.width * n) c.bytes.ensures, c.requires.1)

pub slice_bounds-copy-end-2 : goal.slice_bounds-copy-end-2
slice_bounds-copy-end-2 c =
    omega (arith, ap (λ (n : ℕ). c.args.width * n) c.bytes.ensures, c.requires.0)

pub returns : goal.returns
returns c =
    let f = c.copy in
    let a = c.args in
    let e = ap (λ (n : ℕ). a.width * n) c.bytes.ensures in
    let n : ℕ = a.width * c.bytes.result - 0 in
    let k : ℕ = a.start + a.width * c.bytes.result - a.start in
    let fits : n ≤ length a.buffer.now = omega (arith, e, c.requires.1) in
    let inside : a.start + k ≤ length a.memory.now = omega (arith, e, c.requires.0) in
    let long : length (mid_of 0 n a.buffer.now) ≡ n = length_mid 0 n a.buffer.now (omega arith) in
    pixels_copied a.format a.memory.now a.buffer.now f.new.d a.start a.width n k (omega (arith, e)) (omega arith) fits inside (f.auto.d ∙ long) f.ensures
