use mathlib.Core.Path.{refl}
use native.Mathlib.Omega.{arith}
use Rattle.encoder.specs.Registers.{surface_registers}
use Rattle.encoder.proofs.Allowed.{SurfaceFits, surface_fits}
use Rattle.encoder.proofs.fields.SurfaceFields.registers.Goals.{Start}
use Rattle.encoder.proofs.fields.SurfaceFields.registers.Goals as goal

fits : (c : Start) → SurfaceFits c.args.self
fits c = surface_fits c.args.self c.requires

pub overflow_mul-result : goal.overflow_mul-result
overflow_mul-result c = omega (arith, fits (goal.at.overflow_mul-result c).Start)

pub overflow_add-result : goal.overflow_add-result
overflow_add-result c = omega (arith, fits (goal.at.overflow_add-result c).Start)

pub returns : goal.returns
unfolding surface_registers
returns c = refl
