use mathlib.Core.Path.{◌≡◌, ap, ◌∙◌}
use Prim.Native.Nat.{ℕ, ◌+◌, ◌*◌, ◌/◌, ◌%◌}
use native.Mathlib.Omega.{arith}
use Rattle.lanes.proofs.Passes.{to_end}
use Rattle.solid_rows.proofs.solid.Over.{word_over, words-done}
use Rattle.solid_rows.proofs.solid.solid_word.Goals as goal

pub returns : goal.returns
unfolding word_over
returns c =
    let s = c.args.s in
    let o = c.args.o in
    let w : c.over_two.result ≡ word_over s c.args.d.now o = c.over_two.ensures ∙ cc (c.half.ensures, c.get2.ensures) in
    to_end _ _ _ _ (o + 1 * 2) _ (omega arith)
    (words-done s c.args.d.now c.put2.new.d (λ j. omega (arith, c.slice_known-1.given j)) o 1 c.requires.1
    (λ k l. let i : o + k * 2 ≡ o = omega arith in rw i (c.put2.ensures.low ∙ ap (λ (n : ℕ). n % 256) w))
    (λ k l. let i : o + k * 2 ≡ o = omega arith in rw i (c.put2.ensures.high ∙ ap (λ (n : ℕ). n / 256) w))
    c.put2.ensures.under (λ j l. c.put2.ensures.past j (omega arith)))
