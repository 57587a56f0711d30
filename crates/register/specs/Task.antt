-- The task that a bank describes, for any bank (01, "Groups and registers"; 02, request 3). A code that fault 24 keeps out of every register
-- counts as the definitions of crate pixel say.
use Rattle.std.specs.Prelude.{ℕ, Bool, true, false, cond, eqb}
use Rattle.word.specs.Field.{field}
use Rattle.pixel.specs.Formats.{format_of, layout_of}
use Rattle.pixel.specs.Colours.{unpacked}
use Rattle.pixel.specs.Alpha.{alpha_mode_of}
use Rattle.pixel.specs.Blending.{factor_of}
use Rattle.pixel.specs.declared.format.Format.TheVariants.{Argb8888}
use Rattle.surface.specs.declared.Surface.{Surface}
use Rattle.transform.specs.declared.Transform.{Transform}
use Rattle.transform.specs.Transform.{rotation_of}
use Rattle.register.specs.declared.bank.SurfaceRegisters.{SurfaceRegisters}
use Rattle.register.specs.declared.bank.Bank.{Bank}
use Rattle.register.specs.declared.task.Alpha.{Alpha}
use Rattle.register.specs.declared.task.Source.{Source}
use Rattle.register.specs.declared.task.SourceMode.{SourceMode}
use Rattle.register.specs.declared.task.SourceMode.TheVariants.{Buffer, Colour, GradientX, GradientY}
use Rattle.register.specs.declared.task.Destination.{Destination}
use Rattle.register.specs.declared.task.Blending.{Blending}
use Rattle.register.specs.declared.task.Task.{Task}

-- the rectangle that the registers of a surface describe: stride 15:0; size 28:16 height, 12:0 width; format 14:8 of the control
unfoldable pub surface_of : SurfaceRegisters → Surface
surface_of r = record {
  address = r.address;
  stride = field 15 0 r.stride;
  width = field 12 0 r.size;
  height = field 28 16 r.size;
  format = format_of (field 14 8 r.control);
}

-- 0 buffer, 1 colour, 2 shaded along x, 3 shaded along y
abbrev pub source_mode_of : ℕ → SourceMode
source_mode_of code = cond (eqb code 0) Buffer (cond (eqb code 1) Colour (cond (eqb code 2) GradientX GradientY))

-- the source is read from memory: else, in colour mode and where it is shaded, it has no stride, format or span
abbrev pub is_buffer : SourceMode → Bool
is_buffer Buffer = true
is_buffer Colour = false
is_buffer GradientX = false
is_buffer GradientY = false

-- of a source control word: 7 V flip, 6 H flip, 5:4 quarter turns
unfoldable pub transform_of : ℕ → Transform
transform_of control = record {
  flip = record { horizontal = eqb (field 6 6 control) 1; vertical = eqb (field 7 7 control) 1 };
  rotation = rotation_of (field 5 4 control);
}

-- of a control word: 31:24 global alpha, 23:22 alpha mode
unfoldable pub alpha_of : ℕ → Alpha
alpha_of control = record { mode = alpha_mode_of (field 23 22 control); global = field 31 24 control }

-- of a control word: 0 enable
abbrev pub is_enabled : ℕ → Bool
is_enabled control = eqb (field 0 0 control) 1

-- the colour register is A, R, G, B from bit 31 down, as a stored pixel of ARGB8888 is
unfoldable pub source_of_bank : Bank → Source
source_of_bank bank = record {
  surface = surface_of bank.source;
  mode = source_mode_of (field 3 2 bank.source.control);
  colour = unpacked (layout_of Argb8888) bank.colour;
  steps = bank.steps;
  transform = transform_of bank.source.control;
  alpha = alpha_of bank.source.control;
  enabled = is_enabled bank.source.control;
}

unfoldable pub destination_of : Bank → Destination
destination_of bank = record {
  surface = surface_of bank.destination;
  alpha = alpha_of bank.destination.control;
  enabled = is_enabled bank.destination.control;
}

-- 17 premultiplied (02, request 12), 13:11 source factor, 10:8 destination factor, 0 blend on
unfoldable pub blending_of : Bank → Blending
blending_of bank = record {
  on = eqb (field 0 0 bank.blending) 1;
  rule = record { source = factor_of (field 13 11 bank.blending); destination = factor_of (field 10 8 bank.blending) };
  premultiplied = eqb (field 17 17 bank.blending) 1;
}

unfoldable pub task_of : Bank → Task
task_of bank = record {
  source = source_of_bank bank;
  destination = destination_of bank;
  output = surface_of bank.output;
  blending = blending_of bank;
}
