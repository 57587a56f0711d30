use native.Mathlib.Omega.{arith}
use Rattle.encoder.specs.Registers.{source_control}
use Rattle.encoder.proofs.Allowed.{SourceFits, source_fits, source_parts}
use Rattle.encoder.proofs.fields.SourceFields.control.Goals.{Start}
use Rattle.encoder.proofs.fields.SourceFields.control.Goals as goal

fits : (c : Start) → SourceFits c.args.self
fits c = source_fits c.args.self c.requires

pub bits-requires : goal.bits-requires
bits-requires c = (source_parts c.args.self c.requires).alpha

pub overflow_mul-result : goal.overflow_mul-result
overflow_mul-result c =
    omega (arith, fits (goal.at.overflow_mul-result c).Start)

pub overflow_add-result : goal.overflow_add-result
overflow_add-result c =
    omega (arith, fits (goal.at.overflow_add-result c).Start)

pub bits-requires-2 : goal.bits-requires-2
bits-requires-2 c =
    (source_parts c.args.self c.requires).transform

pub overflow_add-result-2 : goal.overflow_add-result-2
overflow_add-result-2 c =
    omega (arith, fits (goal.at.overflow_add-result-2 c).Start)

pub overflow_mul-result-2 : goal.overflow_mul-result-2
overflow_mul-result-2 c =
    omega (arith, fits (goal.at.overflow_mul-result-2 c).Start)

pub overflow_add-result-3 : goal.overflow_add-result-3
overflow_add-result-3 c =
    omega (arith, fits (goal.at.overflow_add-result-3 c).Start)

pub overflow_add-result-4 : goal.overflow_add-result-4
overflow_add-result-4 c =
    omega (arith, fits (goal.at.overflow_add-result-4 c).Start)

pub returns : goal.returns
unfolding source_control
returns c = simp (c.bits-2.ensures, c.bits.ensures)
