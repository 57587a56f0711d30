-- The bank: its reset value, and the bank after a word is written (01, "Groups and registers"; faults 23 and 24).
use Rattle.std.specs.Prelude.{ℕ, ◌+◌, cond, eqb, Option, Some, None, Result, Ok, Err}
use Rattle.pixel.specs.declared.gradient.Steps.{Steps}
use Rattle.reset.specs.declared.ResetRule.{ResetRule}
use Rattle.reset.specs.Reset.{blending_at_reset}
use Rattle.register.specs.declared.bank.SurfaceRegisters.{SurfaceRegisters}
use Rattle.register.specs.declared.bank.Bank.{Bank}
use Rattle.register.specs.declared.bank.WriteFault.TheVariants.{NotWritable, Forbidden}
use Rattle.register.specs.declared.bank.WriteFault.{WriteFault}
use Rattle.register.specs.declared.table.RegisterKind.{RegisterKind}
use Rattle.register.specs.Table.{register_kind_of, accepts_word}

abbrev pub reset_surface : SurfaceRegisters
reset_surface = record { control = 0; size = 0; stride = 0; address = 0 }

abbrev pub reset_steps : Steps
reset_steps = record { alpha = 0; red = 0; green = 0; blue = 0 }

-- reset is 0, but for 0x090, which the engine's reset rule decides (02, request 2)
abbrev pub reset_bank : ResetRule → Bank
reset_bank rule = record {
  source = reset_surface;
  destination = reset_surface;
  output = reset_surface;
  colour = 0;
  steps = reset_steps;
  blending = blending_at_reset rule;
}

-- what the register at `register` holds after a word was written at an offset: that word if it stands there, else what it held
abbrev pub register_after_write : ℕ → ℕ → ℕ → ℕ → ℕ
register_after_write register offset word old = cond (eqb offset register) word old

-- the registers of a surface stand at base, base + 4, base + 8 and base + 16
unfoldable pub surface_after_write : ℕ → ℕ → ℕ → SurfaceRegisters → SurfaceRegisters
surface_after_write base offset word s = record {
  control = register_after_write base offset word s.control;
  size = register_after_write (base + 0x4) offset word s.size;
  stride = register_after_write (base + 0x8) offset word s.stride;
  address = register_after_write (base + 0x10) offset word s.address;
}

-- the steps of a gradient (02, request 3): A, R, G, B at 0x030, 0x034, 0x038 and 0x03C
unfoldable pub steps_after_write : ℕ → ℕ → Steps → Steps
steps_after_write offset word s = record {
  alpha = register_after_write 0x030 offset word s.alpha;
  red = register_after_write 0x034 offset word s.red;
  green = register_after_write 0x038 offset word s.green;
  blue = register_after_write 0x03C offset word s.blue;
}

-- the bank with a word in the register at an offset, all other registers as they were
unfoldable pub bank_after_write : Bank → ℕ → ℕ → Bank
bank_after_write bank offset word = record {
  source = surface_after_write 0x010 offset word bank.source;
  destination = surface_after_write 0x050 offset word bank.destination;
  output = surface_after_write 0x100 offset word bank.output;
  colour = register_after_write 0x01C offset word bank.colour;
  steps = steps_after_write offset word bank.steps;
  blending = register_after_write 0x090 offset word bank.blending;
}

-- a word written at an offset where the table has this row: 23 where it has none, 24 where the register does not take the word
abbrev pub write_as : Option RegisterKind → Bank → ℕ → ℕ → Result Bank WriteFault
write_as None bank offset word = Err NotWritable
write_as (Some kind) bank offset word = cond (accepts_word kind word) (Ok (bank_after_write bank offset word)) (Err Forbidden)

-- a word written at an offset: the bank after it, or why not
unfoldable pub write_register : Bank → ℕ → ℕ → Result Bank WriteFault
write_register bank offset word = write_as (register_kind_of offset) bank offset word
