-- Internal: one colour over a row of ARGB8888 pixels (01, "Pixels": SRC_OVER; 02, request 13). Such a pixel lies in memory as B, G, R, A.
use Rattle.std.specs.Prelude.{cond, List, ℕ, ◌-◌, ◌%◌, eqb, get_or}
use Rattle.pixel.specs.Blending.{blended_channel}
use Rattle.pixel.specs.declared.colour.Colour.{Colour}

-- byte j of a row of one colour
abbrev pub channel_at : Colour → ℕ → ℕ
channel_at c j = cond (eqb (j % 4) 0) c.blue (cond (eqb (j % 4) 1) c.green (cond (eqb (j % 4) 2) c.red c.alpha))

-- byte j of the row d with the colour c over it
unfoldable pub over_at : Colour → List ℕ → ℕ → ℕ
over_at c d j = blended_channel (channel_at c j) 255 (get_or d j 0) (255 - c.alpha)
