use mathlib.Core.Path.{refl}
use native.Mathlib.Omega.{arith}
use Rattle.encoder.specs.Registers.{blending_word}
use Rattle.encoder.proofs.Allowed.{BlendingFits, blending_fits}
use Rattle.encoder.proofs.fields.BlendingFields.word.Goals.{Start}
use Rattle.encoder.proofs.fields.BlendingFields.word.Goals as goal

fits : (c : Start) → BlendingFits c.args.self
fits c = blending_fits c.args.self c.requires

pub overflow_mul-result : goal.overflow_mul-result
overflow_mul-result c = omega (arith, fits (goal.at.overflow_mul-result c).Start)

pub overflow_mul-result-2 : goal.overflow_mul-result-2
overflow_mul-result-2 c = omega (arith, fits (goal.at.overflow_mul-result-2 c).Start)

pub overflow_add-result : goal.overflow_add-result
overflow_add-result c = omega (arith, fits (goal.at.overflow_add-result c).Start)

pub overflow_mul-result-3 : goal.overflow_mul-result-3
overflow_mul-result-3 c = omega (arith, fits (goal.at.overflow_mul-result-3 c).Start)

pub overflow_add-result-2 : goal.overflow_add-result-2
overflow_add-result-2 c = omega (arith, fits (goal.at.overflow_add-result-2 c).Start)

pub overflow_add-result-3 : goal.overflow_add-result-3
overflow_add-result-3 c = omega (arith, fits (goal.at.overflow_add-result-3 c).Start)

pub returns : goal.returns
unfolding blending_word
returns c = refl
