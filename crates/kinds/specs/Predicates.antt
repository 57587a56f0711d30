-- Internal: used only in contracts of helper functions. What is asked of a task's parts to find the kind of its rows (02, request 13).
use Rattle.std.specs.Prelude.{Bool, true, false, ◌&&◌, eqb}
use Rattle.pixel.specs.declared.blend.AlphaMode.{AlphaMode}
use Rattle.pixel.specs.declared.blend.AlphaMode.TheVariants.{Pixel, Global, Mixed}
use Rattle.pixel.specs.declared.blend.Factor.{Factor}
use Rattle.pixel.specs.declared.blend.Factor.TheVariants.{Zero, One, SourceAlpha, InverseSourceAlpha, DestinationAlpha, InverseDestinationAlpha}
use Rattle.pixel.specs.declared.blend.BlendFactors.{BlendFactors}
use Rattle.pixel.specs.declared.format.Format.TheVariants.{Argb8888}
use Rattle.surface.specs.declared.Surface.{Surface}
use Rattle.register.specs.Task.{is_buffer}
use Rattle.register.specs.declared.task.Source.{Source}
use Rattle.register.specs.declared.task.SourceMode.{SourceMode}
use Rattle.register.specs.declared.task.SourceMode.TheVariants.{Buffer, Colour, GradientX, GradientY}
use Rattle.task_check.specs.Rules.{same_format}
use Rattle.row_pixels.specs.Strided.{is_identity_row}

-- all pixels of an output row have one colour
abbrev pub is_uniform : SourceMode → Bool
is_uniform Buffer = false
is_uniform Colour = true
is_uniform GradientX = false
is_uniform GradientY = true

-- the source is one colour
abbrev pub is_colour : SourceMode → Bool
is_colour Buffer = false
is_colour Colour = true
is_colour GradientX = false
is_colour GradientY = false

-- pixels keep their own alphas under a mode
abbrev pub is_pixel_mode : AlphaMode → Bool
is_pixel_mode Pixel = true
is_pixel_mode Global = false
is_pixel_mode Mixed = false

-- the factors of SRC_OVER (01, "Pixels"): 255 for the source, and 255 less the source's alpha for the destination
abbrev pub is_one : Factor → Bool
is_one Zero = false
is_one One = true
is_one SourceAlpha = false
is_one InverseSourceAlpha = false
is_one DestinationAlpha = false
is_one InverseDestinationAlpha = false

abbrev pub is_inverse_source_alpha : Factor → Bool
is_inverse_source_alpha Zero = false
is_inverse_source_alpha One = false
is_inverse_source_alpha SourceAlpha = false
is_inverse_source_alpha InverseSourceAlpha = true
is_inverse_source_alpha DestinationAlpha = false
is_inverse_source_alpha InverseDestinationAlpha = false

-- a rule is SRC_OVER
abbrev pub is_src_over : BlendFactors → Bool
is_src_over rule = is_one rule.source && is_inverse_source_alpha rule.destination

-- the source's rows can be taken byte by byte as they are: a buffer of the output's format, neither turned nor flipped from left to right
unfoldable pub is_moved : Source → Surface → Bool
is_moved s output = is_buffer s.mode && is_identity_row s.transform.rotation s.transform.flip && same_format s.surface.format output.format

-- the output of a task is its own destination, in the format of the buffers: its rows are blended where they lie
unfoldable pub is_in_place : Surface → Surface → Bool
is_in_place destination output =
    same_format destination.format Argb8888
    && same_format output.format Argb8888
    && eqb destination.address output.address
    && eqb destination.stride output.stride
