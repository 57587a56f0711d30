-- One lane by the alphas of its pixel.
use mathlib.Core.Path.{◌≡◌}
use mathlib.Core.List.{List}
use Prim.Native.Nat.{ℕ, ◌+◌, ◌-◌, ◌*◌, ◌/◌, ◌≤◌}
use native.Mathlib.Omega.{arith}
use lib.ListN.{get_or}
use Rattle.pixel.specs.Blending.{factor_value}
use Rattle.pixel.specs.declared.blend.BlendFactors.{BlendFactors}
use Rattle.pixel.specs.Rules.{blend_mode_factors}
use Rattle.pixel.specs.declared.blend.BlendMode.TheVariants.{SrcOver}
use Rattle.plan.specs.Blend.{duo, top_at, lane_at}

pub lane_by : (rule : BlendFactors) (a b : List ℕ) (k x y : ℕ) → x ≡ top_at a k → y ≡ top_at b k →
    duo (get_or a k 0) (factor_value rule.source x y) (get_or b k 0) (factor_value rule.destination x y) ≡ lane_at rule a b k
unfolding lane_at
lane_by rule a b k x y h l = rw (h, l)

-- and under SRC_OVER, by the source's complement
pub over_by : (a b : List ℕ) (k x : ℕ) → get_or a k 0 ≤ 65535 → get_or a (k / 2 * 2 + 1) 0 ≤ 65535 → x ≡ (65535 - get_or a (k / 2 * 2 + 1) 0) / 256 →
    duo (65535 - (65535 - get_or a k 0)) 255 (get_or b k 0) x ≡ lane_at (blend_mode_factors SrcOver) a b k
unfolding lane_at
over_by a b k x h l e =
    let u : 65535 - (65535 - get_or a k 0) ≡ get_or a k 0 = omega arith in
    let v : x ≡ 255 - top_at a k = omega arith in
    rw (u, v)
