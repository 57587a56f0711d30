use native.Mathlib.Omega.{arith}
use Rattle.encoder.specs.Registers.{bank_of}
use Rattle.encoder.proofs.Allowed.{Parts, parts, source_parts, destination_parts, surface_fits}
use Rattle.encoder.proofs.fields.Fields.registers.Goals.{Start}
use Rattle.encoder.proofs.fields.Fields.registers.Goals as goal

held : (c : Start) → Parts c.args.self
held c = parts c.args.self c.requires

pub control-requires : goal.control-requires
control-requires c =
    (held (goal.at.control-requires c).Start).source

pub registers-requires : goal.registers-requires
registers-requires c =
    (source_parts c.args.self.source (held (goal.at.registers-requires c).Start).source).surface

pub control-requires-2 : goal.control-requires-2
control-requires-2 c =
    (held (goal.at.control-requires-2 c).Start).destination

pub registers-requires-2 : goal.registers-requires-2
registers-requires-2 c =
    (destination_parts c.args.self.destination (held (goal.at.registers-requires-2 c).Start).destination).surface

pub overflow_mul-self : goal.overflow_mul-self
overflow_mul-self c =
    omega (arith, surface_fits c.args.self.output (held (goal.at.overflow_mul-self c).Start).output)

pub registers-requires-3 : goal.registers-requires-3
registers-requires-3 c =
    (held (goal.at.registers-requires-3 c).Start).output

pub word-requires : goal.word-requires
word-requires c =
    (held (goal.at.word-requires c).Start).blending

pub returns : goal.returns
unfolding bank_of
returns c =
    simp (c.word.ensures, c.registers-3.ensures, c.registers-2.ensures, c.control-2.ensures, c.registers.ensures, c.control.ensures)
