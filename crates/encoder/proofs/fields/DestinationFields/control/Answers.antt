use native.Mathlib.Omega.{arith}
use Rattle.encoder.specs.Registers.{destination_control}
use Rattle.encoder.proofs.Allowed.{DestinationFits, destination-fits, destination_parts}
use Rattle.encoder.proofs.fields.DestinationFields.control.Goals.{Start}
use Rattle.encoder.proofs.fields.DestinationFields.control.Goals as goal

fits : (c : Start) → DestinationFits c.args.self
fits c = destination-fits c.args.self c.requires

pub bits-requires : goal.bits-requires
bits-requires c = (destination_parts c.args.self c.requires).alpha

pub overflow_mul-result : goal.overflow_mul-result
overflow_mul-result c = omega (arith, fits (goal.at.overflow_mul-result c).Start)

pub overflow_add-result : goal.overflow_add-result
overflow_add-result c = omega (arith, fits (goal.at.overflow_add-result c).Start)

pub overflow_add-result-2 : goal.overflow_add-result-2
overflow_add-result-2 c =
    omega (arith, fits (goal.at.overflow_add-result-2 c).Start)

pub returns : goal.returns
unfolding destination_control
returns c = simp c.bits.ensures
