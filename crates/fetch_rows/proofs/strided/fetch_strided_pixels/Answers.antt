use mathlib.Core.Path.{refl, ap, ◌∙◌}
use native.Mathlib.Omega.{arith}
use borrow.Author.Count.{below_none}
use Rattle.surface.specs.Drawn.{load_pixel}
use Rattle.fetch_rows.proofs.words.Words.{holds-step}
use Rattle.fetch_rows.proofs.strided.fetch_strided_pixels.Goals as goal

pub loop-x-init : goal.loop-x-init
loop-x-init c = (below_none _, refl)

pub strided_address-requires : goal.strided_address-requires
strided_address-requires c =
    let p = c.requires in
    let l = c.loop-x-test.true in
    (p.above _ l, λ e. omega (arith, rw e at (p.inside _ l)))

pub load_as_word-requires : goal.load_as_word-requires
load_as_word-requires c =
    rw c.strided_address.ensures (c.requires.inside _ c.loop-x-test.true)

pub store_word-requires : goal.store_word-requires
store_word-requires c =
    omega (arith, c.loop-x-test.true, c.loop-x.invariant.1, c.requires.room)

pub loop-x-preserved : goal.loop-x-preserved
loop-x-preserved c =
    let l = c.loop-x in
    let a = c.args in (
      holds-step _ l.buffer c.store_word.new.row l.x c.load_as_word.result (omega (arith, c.loop-x-test.true, l.invariant.1, c.requires.room)) (omega arith) l.invariant.0 c.store_word.ensures
          (c.load_as_word.ensures ∙ ap (load_pixel a.format a.memory.now) c.strided_address.ensures),
      c.store_word.auto.row ∙ l.invariant.1,
    )

pub returns : goal.returns
returns c = λ x z. c.loop-x.invariant.0 x (omega arith)
