use mathlib.Core.Path.{◌≡◌}
use Prim.Native.Nat.{ℕ, ◌-◌, ◌*◌, ◌%◌, ◌^◌, ◌≤◌, ◌<◌}
use native.Mathlib.Omega.{arith}
use lib.Pow.{shl_exact}
use Rattle.pixel.specs.Colours.{widened}
use Rattle.pixel.proofs.Channels.{widened_small}
use Rattle.pixel.proofs.format.widen.Goals as goal

-- a channel that is shifted to a byte's upper end loses nothing
shifted : (width c : ℕ) → width ≤ 8 → c < 2 ^ width → c * 2 ^ (8 - width) % 4294967296 ≡ c * 2 ^ (8 - width)
shifted width c most fits = shl_exact {a = c} width (8 - width) 32 fits (omega arith)

pub overflow_cast-result : goal.overflow_cast-result
unfolding widened
overflow_cast-result g c =
    let r = c.requires in
    rw (shifted g.row.WIDTH c.args.c r.1 r.2) (record { fits = widened_small g.row.WIDTH r.0 r.1 c.args.c r.2 })

pub returns : goal.returns
unfolding widened
returns g c = rw (shifted g.row.WIDTH c.args.c c.requires.1 c.requires.2)
