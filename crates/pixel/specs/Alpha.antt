-- The alpha modes (01, "Pixels"; 001, alpha modes).
use Rattle.std.specs.Prelude.{ℕ, ◌*◌, Bool, cond, eqb, leb}
use Rattle.division.specs.Division.{div255}
use Rattle.pixel.specs.declared.colour.Colour.{Colour}
use Rattle.pixel.specs.declared.blend.AlphaMode.{AlphaMode}
use Rattle.pixel.specs.declared.blend.AlphaMode.TheVariants.{Pixel, Global, Mixed}

-- a number is the code of an alpha mode
abbrev pub is_alpha_mode : ℕ → Bool
is_alpha_mode code = leb code 2

-- the mode of a code: 0 pixel, 1 global, 2 mixed; a number that is no code, which fault 24 keeps out of every register, counts as 2
abbrev pub alpha_mode_of : ℕ → AlphaMode
alpha_mode_of code = cond (eqb code 0) Pixel (cond (eqb code 1) Global Mixed)

-- the alpha of a pixel under a mode, with the surface's global alpha
abbrev pub effective_alpha : AlphaMode → ℕ → ℕ → ℕ
effective_alpha Pixel global pixel = pixel
effective_alpha Global global pixel = global
effective_alpha Mixed global pixel = div255 (pixel * global)

-- a colour with its alpha under a mode
abbrev pub with_alpha : AlphaMode → ℕ → Colour → Colour
with_alpha mode global c = record { alpha = effective_alpha mode global c.alpha; red = c.red; green = c.green; blue = c.blue }
