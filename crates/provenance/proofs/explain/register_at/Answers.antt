use Prim.Native.Nat.{ℕ, ◌+◌, ◌-◌}
use mathlib.Core.Path.{◌≡◌, sym, ap, ◌∙◌}
use mathlib.Core.List.{List}
use native.Mathlib.Nat.{sub-zero}
use native.Mathlib.Omega.{arith}
use lib.ListN.{drop}
use borrow.Author.Tests.{eq-eqb, ne_eqb}
use Rattle.batch.specs.Walk.{words_in}
use Rattle.provenance.specs.declared.Group.{Group}
use Rattle.provenance.specs.Faulted.{group_after, register_from}
use Rattle.provenance.proofs.explain.Batch.{register_past, register_next, register_here}
use Rattle.provenance.proofs.explain.register_at.Goals.{Start}
use Rattle.provenance.proofs.explain.register_at.Goals as goal

-- the words of the batch
abbrev Ws : Start → List ℕ
Ws c = words_in c.args.batch

pub returns-then-word_count-k : goal.returns-then-word_count-k
returns-then-word_count-k c =
    sym (register_past _ c.args.k (Ws (goal.at.returns-then-word_count-k c).Start) (omega (arith, c.word_count.ensures, c.if-word_count-k.true)))

pub loop-at-init : goal.loop-at-init
loop-at-init c =
    (omega arith, omega (arith, c.word_count.ensures, c.if-word_count-k.false), omega arith, rw sub-zero)

pub onward-group-requires : goal.onward-group-requires
onward-group-requires c = c.loop-at.invariant.2

pub loop-at-preserved : goal.loop-at-preserved
loop-at-preserved c =
    let l = c.loop-at in (
      omega (arith, c.loop-at-test.true),
      l.invariant.1,
      c.onward-group.ensures.1,
      l.invariant.3 ∙ register_next l.group c.args.k l.at (Ws (goal.at.loop-at-preserved c).Start) c.loop-at-test.true l.invariant.1
          ∙ ap (λ (g : Group). register_from g (c.args.k - (l.at + 1)) (drop (l.at + 1) (Ws (goal.at.loop-at-preserved c).Start))) (ap (group_after l.group) (sym c.word_at.ensures) ∙ sym c.onward-group.ensures.0),
    )

pub returns-then-group-eq0 : goal.returns-then-group-eq0
returns-then-group-eq0 c =
    let l = c.loop-at in
    let done : l.at ≡ c.args.k = omega (arith, l.invariant.0, c.loop-at-test.false) in
    sym (l.invariant.3 ∙ rw done (rw (eq-eqb l.group.left 0 c.if-group-eq0.true) at (register_here l.group c.args.k (Ws (goal.at.returns-then-group-eq0 c).Start) l.invariant.1)))

pub returns-else-group-eq0 : goal.returns-else-group-eq0
returns-else-group-eq0 c =
    let l = c.loop-at in
    let done : l.at ≡ c.args.k = omega (arith, l.invariant.0, c.loop-at-test.false) in
    sym (l.invariant.3 ∙ rw done (rw (ne_eqb l.group.left 0 c.if-group-eq0.false) at (register_here l.group c.args.k (Ws (goal.at.returns-else-group-eq0 c).Start) l.invariant.1)))
