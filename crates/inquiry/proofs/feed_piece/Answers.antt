use borrow.Author.Rules.{rules}
use Prim.Native.Nat.{◌+◌, ◌-◌, ◌≤◌}
use mathlib.Core.List.{◌++◌}
use native.Mathlib.Omega.{arith}
use lib.ListN.{length, take, drop, length-take, length-drop}
use Rattle.inquiry.proofs.Answering.{piece_again, piece-some, piece-none, piece-all}
use Rattle.inquiry.proofs.feed_piece.Goals.{After-feed-fed}
use Rattle.inquiry.proofs.feed_piece.Goals as goal

-- what a call used is of what is left
within : (c : After-feed-fed) → c.loop-used.used + c.feed-fed.result.used ≤ length c.args.piece.now
within c =
    let l = c.loop-used in
    let piece = c.args.piece.now in
    omega (arith, c.feed-fed.ensures.0, l.invariant.0, length-take (length piece - l.used) (drop l.used piece), length-drop l.used piece)

pub loop-used-init : goal.loop-used-init
loop-used-init c =
    let a = c.args in
    (search rules, search rules, λ seen S. piece-none a.question seen a.piece.now a.inquiry a.held.now S)

pub overflow_add-used : goal.overflow_add-used
overflow_add-used c =
    omega (arith, within (goal.at.overflow_add-used c).After-feed-fed, c.well_formed.1.1.1.0.0)

pub returns-then-fed-eq0 : goal.returns-then-fed-eq0
returns-then-fed-eq0 c =
    let l = c.loop-used in
    let a = c.args in
    λ seen S. absurd (piece-some a.question seen a.piece.now l.used c.feed-fed.result _ c.loop-used-test.true (c.feed-fed.ensures.1 (seen ++ take l.used a.piece.now) (l.invariant.2 seen S)) c.if-fed-eq0.true)

pub loop-used-smaller : goal.loop-used-smaller
loop-used-smaller c = omega (arith, within (goal.at.loop-used-smaller c).After-feed-fed, c.if-fed-eq0.false)

pub loop-used-preserved : goal.loop-used-preserved
loop-used-preserved c =
    let l = c.loop-used in
    let a = c.args in (
      within (goal.at.loop-used-preserved c).After-feed-fed,
      search rules,
      λ seen S. piece_again a.question seen a.piece.now l.used c.feed-fed.result _ (c.feed-fed.ensures.1 (seen ++ take l.used a.piece.now) (l.invariant.2 seen S)),
    )

pub returns : goal.returns
returns c =
    let l = c.loop-used in
    let a = c.args in
    λ seen S. piece-all a.question seen a.piece.now l.used l.current _ c.loop-used-test.false (l.invariant.2 seen S)
