use Prim.Native.Nat.{ℕ, ◌+◌, ◌-◌, ◌/◌}
use mathlib.Core.Path.{◌≡◌, refl, sym, ap, ◌∙◌}
use borrow.Author.Rules.{rules}
use Rattle.score.specs.Coverage.{not_above, greatest_to}
use Rattle.score.proofs.Search.{reached, left_out}
use Rattle.score.proofs.greatest.Goals as goal

abbrev middle : ℕ → ℕ → ℕ
middle found end = (found + end) / 2

pub loop-end-init : goal.loop-end-init
unfolding greatest_to
loop-end-init c = (search rules, search rules, refl, refl)

pub loop-end-preserved-then-middle-product : goal.loop-end-preserved-then-middle-product
unfolding not_above
loop-end-preserved-then-middle-product c =
    let l = c.loop-end in
    let p = c.args.product in
    (search rules, search rules, reached p (middle l.found l.end) (search rules) c.if-middle-product.true, l.invariant.3)

pub loop-end-preserved : goal.loop-end-preserved
unfolding not_above
loop-end-preserved c =
    let l = c.loop-end in
    let p = c.args.product in (
      search rules,
      search rules,
      l.invariant.2,
      left_out p (middle l.found l.end) (l.end - 1) (search rules) (search rules) (search rules) c.if-middle-product.false ∙ l.invariant.3,
    )

pub returns : goal.returns
returns c =
    let l = c.loop-end in
    let last : l.found ≡ l.end - 1 = search rules in
    sym l.invariant.2 ∙ ap (λ (n : ℕ). greatest_to n c.args.product) last ∙ l.invariant.3
