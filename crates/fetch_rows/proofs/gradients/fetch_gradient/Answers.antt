use mathlib.Core.Path.{refl, ap, ◌∙◌}
use Prim.Native.Nat.{ℕ, ◌<◌}
use native.Mathlib.Omega.{arith}
use borrow.Author.Count.{below_none}
use Rattle.transform.proofs.Inside.{mirrored-below}
use Rattle.pixel.specs.Gradient.{gradient_colour}
use Rattle.fetch_rows.proofs.words.Words.{holds-step}
use Rattle.fetch_rows.proofs.gradients.fetch_gradient.Goals.{After-mirror-i}
use Rattle.fetch_rows.proofs.gradients.fetch_gradient.Goals as goal

pub loop-x-init : goal.loop-x-init
loop-x-init c = (below_none _, refl)

-- the place is one of the row's
below : (c : After-mirror-i) → c.mirror-i.result < c.args.n
below c =
    let x = c.loop-x.x in
    let l : x < c.args.n = omega (arith, c.loop-x-test.true, c.requires.1) in
    rw c.mirror-i.ensures (mirrored-below c.args.flipped c.args.n x l)

pub overflow_cast-i : goal.overflow_cast-i
overflow_cast-i c = omega (arith, below (goal.at.overflow_cast-i c).After-mirror-i)

pub loop-x-preserved : goal.loop-x-preserved
loop-x-preserved c =
    let l = c.loop-x in
    let a = c.args in (
      holds-step _ l.buffer c.store_word.new.row l.x c.word_of.result (omega (arith, c.loop-x-test.true, l.invariant.1, c.requires.0)) (omega arith) l.invariant.0 c.store_word.ensures
          (c.word_of.ensures ∙ (c.colour_at.ensures ∙ ap (λ (i : ℕ). gradient_colour a.start a.steps i) c.mirror-i.ensures)),
      c.store_word.auto.row ∙ l.invariant.1,
    )

pub returns : goal.returns
returns c = λ x z. c.loop-x.invariant.0 x (omega arith)
