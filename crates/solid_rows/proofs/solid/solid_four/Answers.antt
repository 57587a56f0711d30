use mathlib.Core.Path.{◌≡◌, ◌∙◌, ap}
use Prim.Native.Nat.{ℕ, ◌+◌, ◌*◌, ◌/◌, ◌%◌, ◌<◌}
use native.Mathlib.Omega.{arith}
use lib.ListN.{get_or}
use Rattle.solid_rows.proofs.solid.Over.{word_over, lane_over, words-done}
use Rattle.solid_rows.proofs.solid.solid_four.Goals as goal

pub returns : goal.returns
returns c =
    let s = c.args.s in
    let o = c.args.o in
    let lane : (k : ℕ) → k < 8 → get_or c.solid8-r.result k 0 ≡ word_over s c.args.d.now (o + k * 2) = λ k l. c.solid8-r.ensures k l ∙ lane_over s c.args.d.now c.load8-b.result o k c.requires.1 (c.load8-b.ensures k l) in
    words-done s c.args.d.now c.store8.new.d (λ j. omega (arith, c.slice_known-1.given j)) o 8 (omega (arith, c.requires.1))
    (λ k l. c.store8.ensures.low k l ∙ ap (λ (n : ℕ). n % 256) (lane k l))
    (λ k l. c.store8.ensures.high k l ∙ ap (λ (n : ℕ). n / 256) (lane k l))
    c.store8.ensures.under c.store8.ensures.past
