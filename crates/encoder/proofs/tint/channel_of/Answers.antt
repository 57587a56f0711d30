use mathlib.Core.Path.{◌≡◌, ◌∙◌}
use Prim.Native.Nat.{◌*◌, ◌≤◌}
use native.Mathlib.Omega.{arith}
use Rattle.division.specs.Division.{div255}
use Rattle.division.proofs.Division.{division}
use Rattle.division.proofs.Products.{product_small}
use Rattle.encoder.proofs.tint.channel_of.Goals.{After-div_255, Start}
use Rattle.encoder.proofs.tint.channel_of.Goals as goal

small : (c : Start) → c.args.channel * c.args.coverage ≤ 65025
small c = product_small c.args.channel c.args.coverage (omega arith) (omega arith)

pub overflow_mul-channel : goal.overflow_mul-channel
overflow_mul-channel c = omega (arith, small c)

pub div_255-requires : goal.div_255-requires
div_255-requires c = omega (arith, small c)

-- a product of two bytes is divided exactly
quotient : (c : After-div_255) → c.div_255.result ≡ div255 (c.args.channel * c.args.coverage)
quotient c = c.div_255.ensures ∙ division.exact (c.args.channel * c.args.coverage) (omega (arith, small c.before))

pub overflow_cast-result : goal.overflow_cast-result
unfolding div255
overflow_cast-result c = omega (arith, small (goal.at.overflow_cast-result c).Start, quotient c)

pub returns : goal.returns
returns c = quotient c
