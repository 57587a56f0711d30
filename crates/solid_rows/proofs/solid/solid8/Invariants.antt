use Rattle.std.proofs.Common.{◌≡◌, ℕ, ◌-◌, ◌<◌, length, get_or}
use Rattle.plan.specs.Blend.{duo}
use Rattle.solid_rows.specs.Solid.{half_of}
use Rattle.solid_rows.proofs.solid.solid8.Given as goal

abbrev pub invariant-loop-i : goal.invariant-loop-i
invariant-loop-i l = record { sized : length l.r ≡ 8; laid : (k : ℕ) → k < l.i → get_or l.r k 0 ≡ duo (65535 - half_of l.s k) 255 (get_or l.d k 0) l.s.rest }
