use Rattle.std.proofs.Common.{◌≡◌, ℕ, ◌<◌, length, get_or}
use Rattle.plan.specs.Blend.{lane_at}
use Rattle.combine.proofs.parts.blend8.Given as goal

abbrev pub invariant-loop-i : goal.invariant-loop-i
invariant-loop-i l = record { sized : length l.r ≡ 8; blended : (k : ℕ) → k < l.i → get_or l.r k 0 ≡ lane_at l.p.rule l.s l.d k }
