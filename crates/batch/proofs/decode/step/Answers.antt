use borrow.Author.Tests.{ltb-false, eq-eqb, ne_eqb}
use Prim.Native.Nat.{ℕ, zero, ◌+◌, ◌-◌, ◌*◌, ◌≤◌}
use mathlib.Core.Path.{◌≡◌, sym, ap, ◌∙◌}
use mathlib.Core.Bool.{true, false}
use mathlib.Core.List.{List}
use native.Mathlib.Omega.{arith}
use lib.ListN.{drop}
use lib.Dec.{eqb, ltb}
use Rattle.std.specs.Prelude.{Err}
use Rattle.word.specs.Field.{field}
use Rattle.word.proofs.Tests.{or_false}
use Rattle.task_check.specs.declared.fault.Fault.{Fault}
use Rattle.batch.specs.Batch.{in_group, reserved_bits, group_of}
use Rattle.batch.specs.Walk.{stopped, words_in, step_from, step_at}
use Rattle.batch.proofs.DecoderCases.{words_fit, next-group, open_task, ended, reserved, bad-length, open_group, refused, taken-next, all_taken}
use Rattle.batch.proofs.decode.step.Goals.{After-word_count-n, At-loop-i, Else-count-n, Start}
use Rattle.batch.proofs.decode.step.Goals as goal

-- the words of the batch
abbrev Ws : Start → List ℕ
Ws c = words_in c.args.batch

-- their number, in bytes too, fits
small : (c : After-word_count-n) → 4 * c.word_count-n.result ≤ 18446744073709551615
small c =
    omega (arith, c.word_count-n.ensures, words_fit c.args.batch.ring.now c.args.batch.offset c.args.batch.size, c.ranges.batch)

-- the header at `head` opens a group
group : (c : Else-count-n) → let g = c.groups in
    step_at c.args.bounds (words_in c.args.batch) c.args.bank c.args.k
    ≡ step_from c.args.bounds g.held (g.head + 1) (group_of g.head c.word_at-h.result) (drop (g.head + 1) (words_in c.args.batch))
group c =
    let g = c.groups in
    let w = c.word_at-h in
    let n = c.word_count-n.ensures in
    let ok : reserved_bits w.result ≡ false = sym c.reserved_bits.ensures ∙ c.if-reserved_bits.false in
    g.invariant.2 ∙ open_group c.args.bounds (words_in c.args.batch) g.held g.head w.result (omega (arith, n, g.invariant.1)) w.ensures ok (rw (← n) c.if-count-n.false)

-- the reading from the start is the reading from here, in the group
here : (c : At-loop-i) → let l = c.loop-i in let h = c.word_at-h.result in let g = c.groups in
    step_at c.args.bounds (words_in c.args.batch) c.args.bank c.args.k ≡ step_from c.args.bounds g.held (g.head + 1) (group_of g.head h) (drop (g.head + 1) (words_in c.args.batch))
    → step_at c.args.bounds (words_in c.args.batch) c.args.bank c.args.k
    ≡ step_from c.args.bounds l.held (g.head + 1 + l.i) (in_group (field 15 2 h - l.i) (field 31 16 h + 4 * l.i) (eqb (field 0 0 h) 1) g.head) (drop (g.head + 1 + l.i) (words_in c.args.batch))
here c e = e ∙ c.loop-i.invariant.1

-- and where all its words were taken
behind : (c : At-loop-i) → let l = c.loop-i in let h = c.word_at-h.result in let g = c.groups in
    step_at c.args.bounds (words_in c.args.batch) c.args.bank c.args.k ≡ step_from c.args.bounds g.held (g.head + 1) (group_of g.head h) (drop (g.head + 1) (words_in c.args.batch))
    → l.i ≡ field 15 2 h
    → step_at c.args.bounds (words_in c.args.batch) c.args.bank c.args.k
    ≡ step_from c.args.bounds l.held (g.head + 1 + field 15 2 h) (in_group zero (field 31 16 h + 4 * field 15 2 h) (eqb (field 0 0 h) 1) g.head) (drop (g.head + 1 + field 15 2 h) (words_in c.args.batch))
behind c e all =
    let l = c.loop-i in
    let h = c.word_at-h.result in
    here c e ∙ all_taken c.args.bounds (words_in c.args.batch) l.held (c.groups.head + 1) l.i (field 15 2 h) (field 31 16 h) (eqb (field 0 0 h) 1) c.groups.head all

pub stop-requires : goal.stop-requires
stop-requires c = omega (arith, small (goal.at.stop-requires c).After-word_count-n, c.groups.invariant.1)

pub stop-requires-then-count-n : goal.stop-requires-then-count-n
stop-requires-then-count-n c =
    omega (arith, small (goal.at.stop-requires-then-count-n c).After-word_count-n, c.groups.invariant.1)

pub stop-requires-in-Err : goal.stop-requires-in-Err
stop-requires-in-Err c =
    let m = c.word_count-n.result - (c.groups.head + 1) in
    let h = c.word_at-h.result in
    let two = or_false (eqb (field 15 2 h) 0) (ltb m (field 15 2 h)) c.if-count-n.false in
    omega (arith, small (goal.at.stop-requires-in-Err c).After-word_count-n, c.groups.invariant.1, c.loop-i-test.true, ltb-false m (field 15 2 h) two.1)

pub judged-requires : goal.judged-requires
judged-requires c =
    omega (arith, small (goal.at.judged-requires c).After-word_count-n, c.groups.invariant.1)

pub stop-requires-then-n-after : goal.stop-requires-then-n-after
stop-requires-then-n-after c =
    omega (arith, small (goal.at.stop-requires-then-n-after c).After-word_count-n, c.groups.invariant.1)

pub loop-i-preserved : goal.loop-i-preserved
loop-i-preserved c =
    let l = c.loop-i in
    let w = c.word_at in
    let n = c.word_count-n.ensures in
    let h = c.word_at-h.result in
    let m = c.word_count-n.result - (c.groups.head + 1) in
    let two = or_false (eqb (field 15 2 h) 0) (ltb m (field 15 2 h)) c.if-count-n.false in
    let e = sym c.write.ensures ∙ c.in-Ok.is in (
      omega (arith, c.loop-i-test.true),
      l.invariant.1
          ∙ taken-next c.args.bounds (Ws (goal.at.loop-i-preserved c).Start) l.held (c.groups.head + 1) l.i w.result (omega (arith, n, c.groups.invariant.1, c.loop-i-test.true, ltb-false m (field 15 2 h) two.1)) w.ensures (field 15 2 h) (field 31 16 h) _ _ _ (omega (arith, c.loop-i-test.true)) e,
    )

pub groups-preserved : goal.groups-preserved
groups-preserved c =
    let l = c.loop-i in
    let n = c.word_count-n.ensures in
    let h = c.word_at-h.result in
    let all : l.i ≡ field 15 2 h = omega (arith, c.loop-i-test.false, l.invariant.0) in
    let e : eqb (field 0 0 h) 1 ≡ false = ne_eqb (field 0 0 h) 1 (omega (arith, c.if-h-eq1.false)) in (
      omega (arith, c.groups.invariant.0),
      omega (arith, c.if-n-after.false),
      (rw e at (behind (goal.at.groups-preserved c).At-loop-i (group (goal.at.groups-preserved c).Else-count-n) all)) ∙ next-group c.args.bounds (Ws (goal.at.groups-preserved c).Start) l.held _ _ _ (omega (arith, n, c.if-n-after.false)),
    )

pub returns-then-reserved_bits : goal.returns-then-reserved_bits
returns-then-reserved_bits c =
    let g = c.groups in
    let w = c.word_at-h in
    let n = c.word_count-n.ensures in
    ap Err c.stop.ensures
    ∙ sym (g.invariant.2 ∙ reserved c.args.bounds (Ws (goal.at.returns-then-reserved_bits c).Start) g.held g.head w.result (omega (arith, n, g.invariant.1)) w.ensures (sym c.reserved_bits.ensures ∙ c.if-reserved_bits.true))

pub returns-then-count-n : goal.returns-then-count-n
returns-then-count-n c =
    let g = c.groups in
    let w = c.word_at-h in
    let n = c.word_count-n.ensures in
    let ok : reserved_bits w.result ≡ false = sym c.reserved_bits.ensures ∙ c.if-reserved_bits.false in
    ap Err c.stop-then-count-n.ensures
    ∙ sym (g.invariant.2 ∙ bad-length c.args.bounds (Ws (goal.at.returns-then-count-n c).Start) g.held g.head w.result (omega (arith, n, g.invariant.1)) w.ensures ok (rw (← n) c.if-count-n.true))

pub returns-in-Err : goal.returns-in-Err
returns-in-Err c =
    let l = c.loop-i in
    let w = c.word_at in
    let n = c.word_count-n.ensures in
    let h = c.word_at-h.result in
    let m = c.word_count-n.result - (c.groups.head + 1) in
    let two = or_false (eqb (field 15 2 h) 0) (ltb m (field 15 2 h)) c.if-count-n.false in
    let e = sym c.write.ensures ∙ c.in-Err.is in
    ap Err c.stop-in-Err.ensures
    ∙ sym (here (goal.at.returns-in-Err c).At-loop-i (group (goal.at.returns-in-Err c).Else-count-n)
    ∙ refused c.args.bounds (Ws (goal.at.returns-in-Err c).Start) l.held (c.groups.head + 1 + l.i) w.result (omega (arith, n, c.groups.invariant.1, c.loop-i-test.true, ltb-false m (field 15 2 h) two.1)) w.ensures (field 15 2 h - l.i) (field 31 16 h + 4 * l.i) _ _ _ (omega (arith, c.loop-i-test.true)) e
    ∙ ap (λ (f : Fault). Err (stopped f (4 * (c.groups.head + 1 + l.i)) l.held)) (sym c.into.ensures))

pub returns-then-h-eq1 : goal.returns-then-h-eq1
returns-then-h-eq1 c =
    let l = c.loop-i in
    let h = c.word_at-h.result in
    let all : l.i ≡ field 15 2 h = omega (arith, c.loop-i-test.false, l.invariant.0) in
    let e : eqb (field 0 0 h) 1 ≡ true = eq-eqb (field 0 0 h) 1 (omega (arith, c.if-h-eq1.true)) in
    c.judged.ensures ∙ sym ((rw e at (behind (goal.at.returns-then-h-eq1 c).At-loop-i (group (goal.at.returns-then-h-eq1 c).Else-count-n) all)) ∙ ended c.args.bounds (Ws (goal.at.returns-then-h-eq1 c).Start) l.held _ _ _)

pub returns-then-n-after : goal.returns-then-n-after
returns-then-n-after c =
    let l = c.loop-i in
    let n = c.word_count-n.ensures in
    let h = c.word_at-h.result in
    let all : l.i ≡ field 15 2 h = omega (arith, c.loop-i-test.false, l.invariant.0) in
    let e : eqb (field 0 0 h) 1 ≡ false = ne_eqb (field 0 0 h) 1 (omega (arith, c.if-h-eq1.false)) in
    ap Err c.stop-then-n-after.ensures
    ∙ sym ((rw e at (behind (goal.at.returns-then-n-after c).At-loop-i (group (goal.at.returns-then-n-after c).Else-count-n) all)) ∙ open_task c.args.bounds (Ws (goal.at.returns-then-n-after c).Start) l.held _ _ _ (omega (arith, n, c.if-n-after.true)))
