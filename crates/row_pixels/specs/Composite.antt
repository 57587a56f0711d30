-- A source colour blended with a destination colour (01, "Pixels").
use Rattle.std.specs.Prelude.{cond}
use Rattle.pixel.specs.Alpha.{with_alpha}
use Rattle.pixel.specs.Blending.{blended}
use Rattle.pixel.specs.declared.colour.Colour.{Colour}
use Rattle.unpremultiply.specs.Unpremultiply.{unpremultiplied}
use Rattle.register.specs.declared.task.Alpha.{Alpha}
use Rattle.register.specs.declared.task.Blending.{Blending}

-- the colour with which a source pixel goes into blending, before its alpha mode: divided by its own alpha where it is premultiplied
-- (02, request 12)
abbrev pub source_for_blending : Blending → Colour → Colour
source_for_blending blending c = cond blending.premultiplied (unpremultiplied c) c

-- a colour with its alpha by a surface's alpha mode
abbrev pub with_surface_alpha : Alpha → Colour → Colour
with_surface_alpha a c = with_alpha a.mode a.global c

-- both colours have their alphas by their surfaces' modes, and are blended by the rule
unfoldable pub composite : Blending → Alpha → Alpha → Colour → Colour → Colour
composite blending source destination s d = blended blending.rule (with_surface_alpha source (source_for_blending blending s)) (with_surface_alpha destination d)
