use Rattle.std.proofs.Common.{◌+◌, ◌-◌, ◌≤◌, ltb, leb, length, refl, arith, rules, leb-true}
use Rattle.word.proofs.Tests.{and-true}
use Rattle.replay_pieces.proofs.Gathering.{going_none, going_more}
use Rattle.surface.proofs.Parts.{length_mid}
use Rattle.replay_pieces.proofs.Bounds.{prints-within}
use Rattle.replay_pieces.proofs.gather.feed_lines.Goals.{After-feed-fed, In-loop-used}
use Rattle.replay_pieces.proofs.gather.feed_lines.Goals as goal

-- a line has room
room : (c : In-loop-used) → 128 ≤ length c.loop-used.out - c.loop-used.written
room c =
    let l = c.loop-used in
    let input = c.args.input.now in
    leb-true 128 (length l.out - l.written) (and-true (ltb l.used (length input)) (leb 128 (length l.out - l.written)) c.loop-used-test.true).1

-- what a call used and wrote lies within the input and the lines
bounds : (c : After-feed-fed) → (c.loop-used.used + c.feed-fed.result.used ≤ length c.args.input.now)
    × (c.loop-used.written + c.feed-fed.result.written ≤ length c.args.out.now)
bounds c =
    let l = c.loop-used in
    let input = c.args.input.now in
    let e = c.feed-fed.ensures in (
      omega (arith, e.within, length_mid l.used (length input - l.used) input (omega arith)),
      omega (arith, prints-within _ _ _ _ e.prints c.feed-fed.auto.line, length_mid l.written (length l.out - l.written) l.out (omega arith)),
    )

pub loop-used-init : goal.loop-used-init
loop-used-init c =
    let a = c.args in
    (going_none a.replay a.held.now a.ring.now a.memory.now a.input.now a.out.now, search rules, search rules, search rules, search rules, search rules, search rules)

pub overflow_add-written : goal.overflow_add-written
overflow_add-written c =
    omega (arith, bounds (goal.at.overflow_add-written c).After-feed-fed, c.well_formed.1.1.1.1.1.0.0)

pub overflow_add-used : goal.overflow_add-used
overflow_add-used c =
    omega (arith, bounds (goal.at.overflow_add-used c).After-feed-fed, c.well_formed.1.1.1.1.0.0)

pub loop-used-smaller : goal.loop-used-smaller
loop-used-smaller c =
    omega (arith, bounds (goal.at.loop-used-smaller c).After-feed-fed)

pub loop-used-preserved : goal.loop-used-preserved
loop-used-preserved c =
    let l = c.loop-used in
    let k = bounds (goal.at.loop-used-preserved c).After-feed-fed in (
      going_more _ _ _ _ _ l.used l.written l.now _ _ _ l.out l.invariant.0 _ (length l.out - l.written) c.feed-fed.result _ _ _ _ refl (omega (arith, room (goal.at.loop-used-preserved c).In-loop-used, length_mid l.written (length l.out - l.written) l.out (omega arith))) (omega arith) (omega (arith, prints-within _ _ _ _ c.feed-fed.ensures.prints c.feed-fed.auto.line, c.feed-fed.auto.line)) c.feed-fed.ensures,
      k.0,
      k.1,
      search rules,
      search rules,
      search rules,
      search rules,
    )

pub returns-after-loop-used : goal.returns-after-loop-used
returns-after-loop-used c =
    let l = c.loop-used in
    record { within = l.invariant.1; room = l.invariant.2; same = l.invariant.0.0; onward = l.invariant.0.1 }

pub shape_of-held-then-taken-eq0 : goal.shape_of-held-then-taken-eq0
shape_of-held-then-taken-eq0 c =
    let l = c.loop-used in
    let k = c.feed-fed.auto.held in
    let e = l.invariant.3 in
    search (rules, k, e)

pub shape_of-ring-then-taken-eq0 : goal.shape_of-ring-then-taken-eq0
shape_of-ring-then-taken-eq0 c =
    let l = c.loop-used in
    let k = c.feed-fed.auto.ring in
    let e = l.invariant.4 in
    search (rules, k, e)

pub shape_of-memory-then-taken-eq0 : goal.shape_of-memory-then-taken-eq0
shape_of-memory-then-taken-eq0 c =
    let l = c.loop-used in
    let k = c.feed-fed.auto.memory in
    let e = l.invariant.5 in
    search (rules, k, e)

pub shape_of-out-then-taken-eq0 : goal.shape_of-out-then-taken-eq0
shape_of-out-then-taken-eq0 c =
    let l = c.loop-used in
    let k = c.feed-fed.auto.line in
    let e = l.invariant.6 in
    search (rules, k, e)

pub returns-then-taken-eq0 : goal.returns-then-taken-eq0
returns-then-taken-eq0 c =
    let l = c.loop-used in
    let k = bounds (goal.at.returns-then-taken-eq0 c).After-feed-fed in
    let g = going_more _ _ _ _ _ l.used l.written l.now _ _ _ l.out l.invariant.0 _ (length l.out - l.written) c.feed-fed.result _ _ _ _ refl (omega (arith, room (goal.at.returns-then-taken-eq0 c).In-loop-used, length_mid l.written (length l.out - l.written) l.out (omega arith))) (omega arith) (omega (arith, prints-within _ _ _ _ c.feed-fed.ensures.prints c.feed-fed.auto.line, c.feed-fed.auto.line)) c.feed-fed.ensures in
    record { within = k.0; room = k.1; same = g.0; onward = g.1 }
