use borrow.Author.Rules.{rules}
use Prim.Native.Nat.{◌+◌, ◌-◌, ◌≤◌}
use mathlib.Core.List.{◌++◌}
use native.Mathlib.Omega.{arith}
use lib.ListN.{length, take, drop, length-take, length-drop}
use Rattle.tally.proofs.Files.{piece_again, piece-none, piece-all}
use Rattle.tally_pieces.proofs.feed_piece.Goals.{After-feed-fed}
use Rattle.tally_pieces.proofs.feed_piece.Goals as goal

-- what a call used is of what is left
within : (c : After-feed-fed) → c.loop-used.used + c.feed-fed.result.used ≤ length c.args.piece.now
within c =
    let l = c.loop-used in
    let piece = c.args.piece.now in
    omega (arith, c.feed-fed.ensures.0, l.invariant.0, length-take (length piece - l.used) (drop l.used piece), length-drop l.used piece)

pub loop-used-init : goal.loop-used-init
loop-used-init c =
    let a = c.args in
    (search rules, search rules, λ totals seen S. piece-none totals seen a.piece.now a.tally a.held.now S)

pub overflow_add-used : goal.overflow_add-used
overflow_add-used c =
    omega (arith, within (goal.at.overflow_add-used c).After-feed-fed, c.well_formed.1.1.0.0)

pub loop-used-smaller : goal.loop-used-smaller
loop-used-smaller c = omega (arith, within (goal.at.loop-used-smaller c).After-feed-fed)

pub loop-used-preserved : goal.loop-used-preserved
loop-used-preserved c =
    let l = c.loop-used in
    let a = c.args in (
      within (goal.at.loop-used-preserved c).After-feed-fed,
      search rules,
      λ totals seen S. piece_again totals seen a.piece.now l.used c.feed-fed.result _ (c.feed-fed.ensures.3 totals (seen ++ take l.used a.piece.now) (l.invariant.2 totals seen S)),
    )

pub returns : goal.returns
returns c =
    let l = c.loop-used in
    let a = c.args in
    λ totals seen S. piece-all totals seen a.piece.now l.used l.current _ c.loop-used-test.false (l.invariant.2 totals seen S)
