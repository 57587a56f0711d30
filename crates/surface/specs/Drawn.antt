-- Memory after a rectangle was drawn, byte by byte (01, "Pixels"; demand 2: no byte outside the output rows changes).
use Rattle.std.specs.Prelude.{ℕ, ◌*◌, List}
use Rattle.pixel.specs.Formats.{bytes_per_pixel, layout_of}
use Rattle.pixel.specs.Colours.{packed, unpacked}
use Rattle.pixel.specs.declared.colour.Colour.{Colour}
use Rattle.pixel.specs.declared.format.Format.{Format}
use Rattle.word.specs.Word.{byte_of}
use Rattle.surface.specs.declared.Surface.{Surface}
use Rattle.surface.specs.Memory.{mapi, overwrite_range, pixel_at}
use Rattle.surface.specs.Rows.{overwrite_rows, row_byte}

-- the colour of the pixel that is stored at address i
unfoldable pub load_pixel : Format → List ℕ → ℕ → Colour
load_pixel f memory i = unpacked (layout_of f) (pixel_at (bytes_per_pixel f) memory i)

-- Internal: memory after a colour was stored as one pixel at address i
unfoldable pub store_pixel : Format → List ℕ → ℕ → Colour → List ℕ
store_pixel f memory i c = mapi (overwrite_range i (bytes_per_pixel f) (λ (k old : ℕ). byte_of (packed (layout_of f) c) k)) memory

-- memory after w by h stored pixels p x y, of b bytes each, were drawn at address a with stride s
unfoldable pub draw_rectangle : ℕ → ℕ → ℕ → ℕ → ℕ → (ℕ → ℕ → ℕ) → List ℕ → List ℕ
draw_rectangle a s w h b p memory = mapi (overwrite_rows a s (w * b) h (λ (y : ℕ). row_byte b (λ (x : ℕ). p x y))) memory

-- memory after a rectangle was drawn on a surface, pixel (x, y) in the colour p x y
unfoldable pub draw_surface : Surface → (ℕ → ℕ → Colour) → List ℕ → List ℕ
draw_surface s p = draw_rectangle s.address s.stride s.width s.height (bytes_per_pixel s.format) (λ (x y : ℕ). packed (layout_of s.format) (p x y))
