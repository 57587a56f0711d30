use native.Mathlib.Omega.{arith}
use Rattle.encoder.proofs.Allowed.{AlphaFits, alpha-fits}
use Rattle.encoder.proofs.fields.AlphaFields.bits.Goals.{Start}
use Rattle.encoder.proofs.fields.AlphaFields.bits.Goals as goal

fits : (c : Start) → AlphaFits c.args.self
fits c = alpha-fits c.args.self c.requires

pub overflow_mul-result : goal.overflow_mul-result
overflow_mul-result c = omega (arith, fits (goal.at.overflow_mul-result c).Start)

pub overflow_mul-result-2 : goal.overflow_mul-result-2
overflow_mul-result-2 c = omega (arith, fits (goal.at.overflow_mul-result-2 c).Start)

pub overflow_add-result : goal.overflow_add-result
overflow_add-result c = omega (arith, fits (goal.at.overflow_add-result c).Start)
