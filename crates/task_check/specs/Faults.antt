-- The faults of a batch (01, "Faults of a taken batch"): the paper's number and status word of each case of the code's enum.
use Rattle.std.specs.Prelude.{ℕ}
use Rattle.register.specs.declared.bank.WriteFault.{WriteFault}
use Rattle.register.specs.declared.bank.WriteFault.TheVariants.{NotWritable as Unwritable, Forbidden as NotAllowed}
use Rattle.task_check.specs.declared.fault.Fault.{Fault}
use Rattle.task_check.specs.declared.fault.Fault.TheVariants.{ReservedBits, GroupLength, OpenTask, NotWritable, Forbidden, BadSurface, SizeMismatch, OutOfBounds, Overlap}

abbrev pub fault_number : Fault → ℕ
-- header bit 1, 16 or 17 set
fault_number ReservedBits = 20
-- group length 0 or past the batch's end
fault_number GroupLength = 21
-- last group not task end
fault_number OpenTask = 22
-- offset not writable
fault_number NotWritable = 23
-- bit or code not allowed
fault_number Forbidden = 24
-- a side, a stride or an enable
fault_number BadSurface = 25
-- a turn where the source is no buffer, or sizes that do not agree
fault_number SizeMismatch = 26
-- a span outside the window, or, of what is read, outside common too
fault_number OutOfBounds = 27
-- surfaces that meet: in rows where their strides are equal, else in spans (02, request 7)
fault_number Overlap = 28

abbrev pub fault_status : Fault → ℕ
fault_status ReservedBits = 0x00000002
fault_status GroupLength = 0x00000100
fault_status OpenTask = 0x00000100
fault_status NotWritable = 0x00000002
fault_status Forbidden = 0x00000002
fault_status BadSurface = 0x00000002
fault_status SizeMismatch = 0x00000002
fault_status OutOfBounds = 0x00000002
fault_status Overlap = 0x00000002

-- the fault of a word that is not written
abbrev pub write_fault : WriteFault → Fault
write_fault Unwritable = NotWritable
write_fault NotAllowed = Forbidden
