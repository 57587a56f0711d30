-- The registers that fields give (01, "Groups and registers"): each field at its lowest bit.
use Rattle.std.specs.Prelude.{ℕ, ◌+◌, ◌*◌}
use Rattle.pixel.specs.declared.gradient.Steps.{Steps}
use Rattle.register.specs.declared.bank.SurfaceRegisters.{SurfaceRegisters}
use Rattle.register.specs.declared.bank.Bank.{Bank}
use Rattle.encoder.specs.declared.fields.SurfaceFields.{SurfaceFields}
use Rattle.encoder.specs.declared.fields.AlphaFields.{AlphaFields}
use Rattle.encoder.specs.declared.fields.TransformFields.{TransformFields}
use Rattle.encoder.specs.declared.fields.SourceFields.{SourceFields}
use Rattle.encoder.specs.declared.fields.DestinationFields.{DestinationFields}
use Rattle.encoder.specs.declared.fields.BlendingFields.{BlendingFields}
use Rattle.encoder.specs.declared.fields.Fields.{Fields}

-- with the control word of the surface: 28:16 height, 12:0 width
unfoldable pub surface_registers : ℕ → SurfaceFields → SurfaceRegisters
surface_registers control s = record {
  control = control;
  size = s.height * 0x10000 + s.width;
  stride = s.stride;
  address = s.address;
}

-- of a control word: 31:24 global alpha, 23:22 alpha mode
abbrev pub alpha_bits : AlphaFields → ℕ
alpha_bits a = a.global * 0x1000000 + a.mode * 0x400000

-- of a control word: 7 V flip, 6 H flip, 5:4 quarter turns
abbrev pub transform_bits : TransformFields → ℕ
transform_bits t = t.vertical * 0x80 + t.horizontal * 0x40 + t.rotation * 0x10

-- 14:8 format, 3:2 source mode, 0 enable
unfoldable pub source_control : SourceFields → ℕ
source_control s = alpha_bits s.alpha + s.surface.format * 0x100 + transform_bits s.transform + s.mode * 0x4 + s.enable

-- 14:8 format, 0 enable
unfoldable pub destination_control : DestinationFields → ℕ
destination_control d = alpha_bits d.alpha + d.surface.format * 0x100 + d.enable

-- 17 premultiplied, 13:11 source factor, 10:8 destination factor, 0 blend on
unfoldable pub blending_word : BlendingFields → ℕ
blending_word b = b.premultiplied * 0x20000 + b.source * 0x800 + b.destination * 0x100 + b.on

-- the bank with exactly these steps and fields; of the output control, 14:8 format
unfoldable pub bank_of : Steps → Fields → Bank
bank_of steps f = record {
  source = surface_registers (source_control f.source) f.source.surface;
  destination = surface_registers (destination_control f.destination) f.destination.surface;
  output = surface_registers (f.output.format * 0x100) f.output;
  colour = f.colour;
  steps = steps;
  blending = blending_word f.blending;
}
