use mathlib.Core.Path.{◌≡◌, refl, ◌∙◌}
use Prim.Native.Nat.{◌*◌}
use native.Mathlib.Omega.{arith}
use Rattle.pixel.specs.declared.format.Format.TheVariants.{Argb8888}
use Rattle.row_pixels.specs.Row.{word_colour}
use Rattle.fetch_rows.proofs.words.RowPrefix.{none-begun, prefix-step, prefix-all}
use Rattle.fetch_rows.proofs.words.fill_words.Goals as goal

pub loop-x-init : goal.loop-x-init
loop-x-init c = (none-begun _ _ _, refl)

pub loop-x-preserved : goal.loop-x-preserved
loop-x-preserved c =
    let l = c.loop-x in
    let a = c.args in
    let s = c.store_word in (
      prefix-step Argb8888 (λ x. word_colour a.word) a.row.now l.row s.new.row l.x (l.x * 4) _ refl refl l.invariant.0 s.ensures,
      s.auto.row ∙ l.invariant.1,
    )

pub returns : goal.returns
returns c =
    let l = c.loop-x in
    let e : l.x ≡ c.args.width = omega arith in
    prefix-all Argb8888 _ c.args.row.now l.row c.args.width c.requires (rw e at l.invariant.0)
