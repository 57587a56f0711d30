use Rattle.pixel.specs.declared.format.Format.TheVariants.{Rgb565}
use Rattle.surface.specs.Drawn.{load_pixel}
use Rattle.lanes.proofs.Passes.{none_done}
use Rattle.row_pixels.proofs.RowColours.Colours.{Row}
use Rattle.row_pixels.proofs.RowColours.Stored.{row_done, four-more}
use Rattle.convert.proofs.rgb565.Pixels.{widen_is}
use Prim.Native.Nat.{ℕ, ◌*◌, ◌/◌, ◌%◌}
use mathlib.Core.Path.{ap, ◌∙◌}
use native.Mathlib.Omega.{arith}
use borrow.Author.Rules.{rules}
use Rattle.convert.proofs.rgb565.from_565.Goals as goal

pub loop-x-init : goal.loop-x-init
loop-x-init c = (search rules, none_done _ _ _)

pub loop-x-preserved : goal.loop-x-preserved
loop-x-preserved c =
    let p = c.put2.ensures in
    let q = c.put2-in-loop-x.ensures in
    let l = c.low.ensures in
    let h = c.high.ensures in
    let v = c.get2-v.result in
    let in-s : Row c.args.s.now = λ j. omega (arith, c.shared_slice_known-1.given j) in
    let in_e : Row c.put2-in-loop-x.new.d = λ j. omega (arith, c.slice_known-in-loop-x-2-1.given j) in (
      search rules,
      four-more (λ k. load_pixel Rgb565 c.args.s.now (k * 2)) c.args.d.now c.loop-x.d c.put2-in-loop-x.new.d c.loop-x.x
          (widen_is c.args.s.now c.put2.new.d c.put2-in-loop-x.new.d c.loop-x.x v in-s (omega arith) c.get2-v.ensures (search rules)
          (p.low ∙ ap (λ (n : ℕ). n % 256) l) (p.high ∙ ap (λ (n : ℕ). n / 256) l) (q.low ∙ ap (λ (n : ℕ). n % 256) h) (q.high ∙ ap (λ (n : ℕ). n / 256) h) q.under in_e)
          (λ j u. q.under j (omega arith) ∙ p.under j u) (λ j u. q.past j (omega arith) ∙ p.past j (omega arith)) c.loop-x.invariant.1,
    )

pub returns : goal.returns
returns c = row_done _ _ _ _ _ c.loop-x.invariant.0 (omega arith) c.loop-x.invariant.1
