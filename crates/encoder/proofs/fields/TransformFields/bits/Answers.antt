use native.Mathlib.Omega.{arith}
use Rattle.encoder.proofs.Allowed.{TransformFits, transform_fits}
use Rattle.encoder.proofs.fields.TransformFields.bits.Goals.{Start}
use Rattle.encoder.proofs.fields.TransformFields.bits.Goals as goal

fits : (c : Start) → TransformFits c.args.self
fits c = transform_fits c.args.self c.requires

pub overflow_mul-result : goal.overflow_mul-result
overflow_mul-result c = omega (arith, fits (goal.at.overflow_mul-result c).Start)

pub overflow_mul-result-2 : goal.overflow_mul-result-2
overflow_mul-result-2 c = omega (arith, fits (goal.at.overflow_mul-result-2 c).Start)

pub overflow_add-result : goal.overflow_add-result
overflow_add-result c = omega (arith, fits (goal.at.overflow_add-result c).Start)

pub overflow_mul-result-3 : goal.overflow_mul-result-3
overflow_mul-result-3 c = omega (arith, fits (goal.at.overflow_mul-result-3 c).Start)

pub overflow_add-result-2 : goal.overflow_add-result-2
overflow_add-result-2 c = omega (arith, fits (goal.at.overflow_add-result-2 c).Start)
