-- Internal: used only in contracts of helper functions. What kind the rows of a task are, and how rows that go by way of buffers become its
-- output's (02, request 13).
use Rattle.std.specs.Prelude.{Bool, not, cond, ◌&&◌}
use Rattle.range.specs.declared.Range.{Range}
use Rattle.range.specs.Range.{contained_in}
use Rattle.surface.specs.Surface.{span}
use Rattle.register.specs.declared.task.Task.{Task}
use Rattle.kinds.specs.Predicates.{is_uniform, is_colour, is_pixel_mode, is_src_over, is_moved, is_in_place}
use Rattle.kinds.specs.declared.Finish.{Finish}
use Rattle.kinds.specs.declared.Finish.TheVariants.{Copied, InPlace, Blended}
use Rattle.kinds.specs.declared.Kind.{Kind}
use Rattle.kinds.specs.declared.Kind.TheVariants.{Filled, Moved, Carried, Solid, Within, Buffered}

-- the source of a task lies in the window
abbrev pub source_in_window : Range → Task → Bool
source_in_window window t = contained_in (span t.source.surface) window

-- SRC_OVER of one colour on the output itself, with the output's own alphas
unfoldable pub is_solid : Task → Bool
is_solid t = is_src_over t.blending.rule && is_colour t.source.mode && is_pixel_mode t.destination.alpha.mode && is_in_place t.destination.surface t.output

-- the output rows of a task are blended with rows of its source as both lie in the window: no alpha mode changes an alpha, and no colour is divided
unfoldable pub is_blended_within : Range → Task → Bool
is_blended_within window t =
    is_moved t.source t.output
    && source_in_window window t
    && is_in_place t.destination.surface t.output
    && not t.blending.premultiplied
    && is_pixel_mode t.source.alpha.mode
    && is_pixel_mode t.destination.alpha.mode

-- the kind of a task that blends, and of one that does not
abbrev pub blended_kind : Range → Task → Kind
blended_kind window t = cond (is_solid t) Solid (cond (is_blended_within window t) Within Buffered)

abbrev pub unblended_kind : Range → Task → Kind
unblended_kind window t = cond (is_moved t.source t.output) (cond (source_in_window window t) Moved Carried) (cond (is_uniform t.source.mode) Filled Buffered)

unfoldable pub kind_of : Range → Task → Kind
kind_of window t = cond t.blending.on (blended_kind window t) (unblended_kind window t)

-- how a row of the source in a buffer becomes the output's
unfoldable pub finish_of : Task → Finish
finish_of t = cond t.blending.on (cond (is_in_place t.destination.surface t.output) InPlace Blended) Copied
