-- The rules of a task, faults 25 to 28 (01, "Faults of a taken batch"; 02, requests 3 and 7). In colour mode, and where it is shaded, the source has
-- no stride, format or span; without blending the destination is not judged. All sums are of numbers that do not wrap.
use Rattle.std.specs.Prelude.{ℕ, ◌%◌, Bool, true, false, cond, not, ◌&&◌, ◌||◌, eqb, ltb, Result, Ok, Err, ⊤}
use Rattle.range.specs.Range.{contained_in}
use Rattle.range.specs.declared.Range.{Range}
use Rattle.pixel.specs.Formats.{layout_of}
use Rattle.pixel.specs.declared.format.Format.{Format}
use Rattle.transform.specs.Transform.{rotated_size}
use Rattle.transform.specs.declared.Rotation.{Rotation}
use Rattle.transform.specs.declared.Rotation.TheVariants.{Rotate0, Rotate90, Rotate180, Rotate270}
use Rattle.transform.specs.declared.Size.{Size}
use Rattle.surface.specs.Surface.{row_length, span}
use Rattle.surface.specs.Overlap.{surfaces_overlap}
use Rattle.surface.specs.declared.Surface.{Surface}
use Rattle.register.specs.Task.{is_buffer}
use Rattle.register.specs.declared.task.Source.{Source}
use Rattle.register.specs.declared.task.Destination.{Destination}
use Rattle.register.specs.declared.task.Task.{Task}
use Rattle.register.specs.Size.{size_of}
use Rattle.task_check.specs.declared.task.Bounds.{Bounds}
use Rattle.task_check.specs.declared.fault.Fault.{Fault}
use Rattle.task_check.specs.declared.fault.Fault.TheVariants.{BadSurface, SizeMismatch, OutOfBounds, Overlap}

-- the source is read from memory
abbrev pub is_buffer_source : Source → Bool
is_buffer_source s = is_buffer s.mode

-- ---- 25

-- a side outside 1 to 4,096
abbrev pub bad_side : ℕ → Bool
bad_side side = eqb side 0 || ltb 4096 side

unfoldable pub bad_sides : Surface → Bool
bad_sides s = bad_side s.width || bad_side s.height

-- a stride no multiple of 8, or under width x bytes a pixel
unfoldable pub bad_stride : Surface → Bool
bad_stride s = ltb 0 (s.stride % 8) || ltb s.stride (row_length s)

-- source disabled, too
unfoldable pub bad_source : Source → Bool
bad_source s = bad_sides s.surface || (is_buffer_source s && bad_stride s.surface) || not s.enabled

unfoldable pub bad_output : Surface → Bool
bad_output s = bad_sides s || bad_stride s

-- destination disabled, too
unfoldable pub bad_destination : Destination → Bool
bad_destination d = bad_sides d.surface || bad_stride d.surface || not d.enabled

-- of the source or the output, and, blending, the destination
unfoldable pub bad_surface : Task → Bool
bad_surface t = bad_source t.source || bad_output t.output || (t.blending.on && bad_destination t.destination)

-- ---- 26

abbrev pub is_unrotated : Rotation → Bool
is_unrotated Rotate0 = true
is_unrotated Rotate90 = false
is_unrotated Rotate180 = false
is_unrotated Rotate270 = false

-- a turn in colour mode, or where the source is shaded
abbrev pub rotated_fill : Source → Bool
rotated_fill s = not (is_buffer_source s) && not (is_unrotated s.transform.rotation)

-- the turned source size
abbrev pub rotated_source_size : Source → Size
rotated_source_size s = rotated_size s.transform.rotation (size_of s.surface)

abbrev pub same_size : Size → Size → Bool
same_size a b = eqb a.width b.width && eqb a.height b.height

-- a turn where the source is no buffer; output size not the turned source size; blending, destination size not output size
unfoldable pub size_mismatch : Task → Bool
size_mismatch t =
    rotated_fill t.source
    || not (same_size (size_of t.output) (rotated_source_size t.source))
    || (t.blending.on && not (same_size (size_of t.destination.surface) (size_of t.output)))

-- ---- 27

-- a span wholly in the client's window
abbrev pub is_writable_span : Bounds → Surface → Bool
is_writable_span bounds s = contained_in (span s) bounds.window

-- common is the first part of memory
abbrev pub common_of : Bounds → Range
common_of bounds = record { start = 0; end = bounds.common_length }

-- or, for what is read, wholly in common
abbrev pub is_readable : Bounds → Surface → Bool
is_readable bounds s = is_writable_span bounds s || contained_in (span s) (common_of bounds)

unfoldable pub out_of_bounds : Bounds → Task → Bool
out_of_bounds bounds t =
    (is_buffer_source t.source && not (is_readable bounds t.source.surface))
    || not (is_writable_span bounds t.output)
    || (t.blending.on && not (is_readable bounds t.destination.surface))

-- ---- 28 (02, request 7)

abbrev pub same_format : Format → Format → Bool
same_format a b = eqb (layout_of a).code (layout_of b).code

-- address, stride and format are equal
unfoldable pub aliases : Surface → Surface → Bool
aliases a b = eqb a.address b.address && eqb a.stride b.stride && same_format a.format b.format

-- source and output meet: with equal strides in rows, else in spans; blending, destination and output meet, unless they are at the same place
unfoldable pub output_overlaps : Task → Bool
output_overlaps t =
    (is_buffer_source t.source && surfaces_overlap t.source.surface t.output)
    || (t.blending.on && surfaces_overlap t.destination.surface t.output && not (aliases t.destination.surface t.output))

-- ---- the lowest number first, over all surfaces

unfoldable pub check_task : Bounds → Task → Result ⊤ Fault
check_task bounds t =
    cond (bad_surface t) (Err BadSurface)
    (cond (size_mismatch t) (Err SizeMismatch)
    (cond (out_of_bounds bounds t) (Err OutOfBounds)
    (cond (output_overlaps t) (Err Overlap)
    (Ok tt))))
