use mathlib.Core.Path.{◌≡◌, ap, ◌∙◌}
use Prim.Native.Nat.{ℕ, ◌*◌, ◌≤◌, ◌<◌}
use native.Mathlib.Omega.{arith}
use lib.IntN.{ℤ, pos, ◌+ℤ◌, ◌*ℤ◌}
use lib.Signed.{mag}
use mir.Syntax.{w64}
use mir.Val.{SFits, to_z, of_z}
use mir.ValLaws.{to_z-of_z}
use Rattle.pixel.proofs.gradient.Magnitude.{plain, mag_prod, mag_sum, step_small, rounded_down-fits}
use Rattle.pixel.specs.Gradient.{signed_step, rounded_down, held, gradient_channel}
use Rattle.pixel.proofs.gradient.channel.Goals.{After-signed-s}
use Rattle.pixel.proofs.gradient.channel.Goals as goal

abbrev St : After-signed-s → ℕ
St c = c.args.start

abbrev Ix : After-signed-s → ℕ
Ix c = c.args.i

abbrev Step : After-signed-s → ℤ
Step c = signed_step c.args.step

small : (c : After-signed-s) → mag (Step c) < 8589934592
small c = step_small c.args.step (omega arith)

-- the step, and each product, as the machine reads it back
step_is : (c : After-signed-s) → to_z w64 (of_z w64 c.signed-s.result) ≡ Step c
step_is c = ap (λ (z : ℤ). to_z w64 (of_z w64 z)) c.signed-s.ensures ∙ to_z-of_z w64 (Step c) (record { sfits = let h = small c in omega arith })

left_is : (c : After-signed-s) → to_z w64 (St c) *ℤ pos 65536 ≡ pos (St c * 65536)
left_is c = ap (λ (z : ℤ). z *ℤ pos 65536) (plain (St c) (omega arith))

right_is : (c : After-signed-s) → to_z w64 (of_z w64 c.signed-s.result) *ℤ to_z w64 (Ix c) ≡ Step c *ℤ pos (Ix c)
right_is c = ap (λ (z : ℤ). z *ℤ to_z w64 (Ix c)) (step_is c) ∙ ap (λ (z : ℤ). Step c *ℤ z) (plain (Ix c) (omega arith))

left-fits : (c : After-signed-s) → SFits w64 (pos (St c * 65536))
left-fits c = record { sfits = omega arith }

right-mag : (c : After-signed-s) → mag (Step c *ℤ pos (Ix c)) ≤ 562941363486720
right-mag c = mag_prod (Step c) (Ix c) 8589934592 65535 (small c) (omega arith)

right-fits : (c : After-signed-s) → SFits w64 (Step c *ℤ pos (Ix c))
right-fits c = record { sfits = let h = right-mag c in omega arith }

abbrev Sum : After-signed-s → ℤ
Sum c = pos (St c * 65536) +ℤ Step c *ℤ pos (Ix c)

sum_fits : (c : After-signed-s) → SFits w64 (Sum c)
sum_fits c =
    let h = mag_sum (pos (St c * 65536)) (Step c *ℤ pos (Ix c)) 16711680 562941363486720 (omega arith) (right-mag c) in
    record { sfits = omega arith }

sum_is : (c : After-signed-s)
    → to_z w64 (of_z w64 (to_z w64 (St c) *ℤ pos 65536)) +ℤ to_z w64 (of_z w64 (to_z w64 (of_z w64 c.signed-s.result) *ℤ to_z w64 (Ix c))) ≡ Sum c
sum_is c =
    let l = ap (λ (z : ℤ). to_z w64 (of_z w64 z)) (left_is c) ∙ to_z-of_z w64 (pos (St c * 65536)) (left-fits c) in
    let r = ap (λ (z : ℤ). to_z w64 (of_z w64 z)) (right_is c) ∙ to_z-of_z w64 (Step c *ℤ pos (Ix c)) (right-fits c) in
    ap (λ (z : ℤ). z +ℤ to_z w64 (of_z w64 (to_z w64 (of_z w64 c.signed-s.result) *ℤ to_z w64 (Ix c)))) l ∙ ap (λ (z : ℤ). pos (St c * 65536) +ℤ z) r

pub returns : goal.returns
unfolding gradient_channel
returns c =
    let back : ℤ → ℤ = λ z. to_z w64 (of_z w64 z) in
    let f = c.floor.ensures ∙ ap rounded_down (ap back (sum_is (goal.at.returns c).After-signed-s) ∙ to_z-of_z w64 (Sum (goal.at.returns c).After-signed-s) (sum_fits (goal.at.returns c).After-signed-s)) in
    c.clamp.ensures ∙ ap held (ap back f ∙ to_z-of_z w64 (rounded_down (Sum (goal.at.returns c).After-signed-s)) (rounded_down-fits (Sum (goal.at.returns c).After-signed-s) (sum_fits (goal.at.returns c).After-signed-s)))
