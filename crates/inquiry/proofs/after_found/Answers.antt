use Prim.Native.Nat.{◌≤◌}
use native.Mathlib.Omega.{arith}
use lib.ListN.{length}
use Rattle.inquiry.proofs.after_found.Goals as goal

pub bounds-held-4 : goal.bounds-held-4
bounds-held-4 c =
    -- where the record lies
    let there : (5 ≤ c.in-Record.end) × (c.in-Record.end ≤ length c.args.held.now) = rw c.in-Record.is at c.requires in
    omega (arith, there)

pub slice_bounds-after_record-count : goal.slice_bounds-after_record-count
slice_bounds-after_record-count c =
    -- where the record lies
    let there : (5 ≤ c.in-Record.end) × (c.in-Record.end ≤ length c.args.held.now) = rw c.in-Record.is at c.requires in
    omega (arith, there)

pub slice_bounds-after_record-start : goal.slice_bounds-after_record-start
slice_bounds-after_record-start c =
    -- where the record lies
    let there : (5 ≤ c.in-Record.end) × (c.in-Record.end ≤ length c.args.held.now) = rw c.in-Record.is at c.requires in
    omega (arith, there)

pub slice_bounds-after_record-end : goal.slice_bounds-after_record-end
slice_bounds-after_record-end c =
    -- where the record lies
    let there : (5 ≤ c.in-Record.end) × (c.in-Record.end ≤ length c.args.held.now) = rw c.in-Record.is at c.requires in
    omega (arith, there)

pub returns-in-Record : goal.returns-in-Record
returns-in-Record c = rw c.in-Record.is c.after_record.ensures
