-- Internal: used only in contracts of helper functions. A row of pixels in a buffer, in a format's own bytes.
use Rattle.std.specs.Prelude.{◌≡◌, List, ℕ, ◌*◌, ◌<◌}
use Rattle.pixel.specs.Formats.{bytes_per_pixel}
use Rattle.pixel.specs.declared.colour.Colour.{Colour}
use Rattle.pixel.specs.declared.format.Format.{Format}
use Rattle.surface.specs.Drawn.{load_pixel}

-- the first pixels of a buffer have the colours p
abbrev pub HoldsPixels : Format → List ℕ → ℕ → (ℕ → Colour) → Type 0
HoldsPixels f buffer width p = (x : ℕ) → x < width → load_pixel f buffer (x * bytes_per_pixel f) ≡ p x
