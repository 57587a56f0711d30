use mathlib.Core.Path.{ap, ◌∙◌}
use Prim.Native.Nat.{ℕ, ◌-◌}
use native.Mathlib.Omega.{arith}
use Rattle.tally.specs.Running.{plus}
use Rattle.tally.proofs.Adding.{fault-between}
use Rattle.tally_pieces.proofs.add_fault.Goals as goal

pub overflow_sub-number : goal.overflow_sub-number
overflow_sub-number c = omega (arith, c.number-number.ensures, fault-between c.args.fault)

pub add-requires : goal.add-requires
add-requires c = omega (arith, c.number-number.ensures, fault-between c.args.fault)

pub returns : goal.returns
returns c = c.add.ensures ∙ ap (λ (n : ℕ). plus (n - 16) 1 c.args.running) c.number-number.ensures
