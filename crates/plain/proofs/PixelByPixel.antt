-- A row drawn pixel by pixel, from the memory as it is then, is the row drawn at once from the memory before it. The pixels that are drawn already
-- change nothing that a later one reads: no output byte is a source byte, and a destination is apart from the output too, or is the output, of which
-- the pixel to come is as it was.
use mathlib.Core.Path.{◌≡◌, refl, sym, ap, ◌∙◌}
use mathlib.Core.List.{List}
use mathlib.Core.Logic.{⊎_elim}
use Prim.Native.Nat.{ℕ, ◌+◌, ◌*◌, ◌≤◌, ◌<◌}
use native.Mathlib.Omega.{arith}
use native.Mathlib.Nat.{le_refl}
use lib.ListN.{length, get_or}
use Rattle.word.specs.Word.{byte_of}
use Rattle.range.specs.declared.Range.{Range}
use Rattle.pixel.specs.Formats.{bytes_per_pixel, layout_of}
use Rattle.pixel.specs.Colours.{packed}
use Rattle.transform.specs.Transform.{InPicture}
use Rattle.transform.specs.declared.Point.{Point}
use Rattle.surface.specs.Surface.{row_start, pixel_start, DisjointRows}
use Rattle.surface.specs.Memory.{mapi}
use Rattle.surface.specs.Rows.{overwrite_rows}
use Rattle.surface.specs.Drawn.{store_pixel}
use Rattle.surface.specs.declared.Surface.{Surface}
use Rattle.surface.proofs.Sizes.{bytes-some}
use Rattle.surface.proofs.Mapi.{length-mapi, mapi-stays}
use Rattle.surface.proofs.Rows.{next, rows_else, none_rows}
use Rattle.surface.proofs.Pixels.{row_pixels}
use Rattle.surface.proofs.Outside.{pixel_in_row}
use Rattle.surface.proofs.Loaded.{loaded_same, more_stored}
use Rattle.register.specs.declared.task.Task.{Task}
use Rattle.register.specs.Size.{size_of}
use Rattle.row_pixels.specs.Row.{colour_at}
use Rattle.raster.specs.Task.{pixel_colour}
use Rattle.raster.specs.Preconditions.{TaskInBounds, Drawable}
use Rattle.raster.specs.Row.{row_drawn, draw_row}
use Rattle.raster.proofs.Pixel.{pixel_same, origin-within, destination-within}

-- a task that may be drawn in a window of memory may be drawn in all of it
pub in_all : (window : Range) (n : ℕ) (t : Task) → Drawable window n t → Drawable (record { start = 0; end = n }) n t
in_all window n t d =
    let c = d.clear in
    record {
      room = le_refl n;
      clear = record {
        output = c.output;
        begins = omega arith;
        ends = omega (arith, c.ends, d.room);
        size = c.size;
        upright = c.upright;
        source = c.source;
        destination = c.destination;
      };
    }

-- memory after the first n pixels of row y of a task
unfoldable pub prefix : Task → (y n : ℕ) → List ℕ → List ℕ
prefix t y n memory =
    mapi
    (overwrite_rows (row_start t.output y) (bytes_per_pixel t.output.format) (bytes_per_pixel t.output.format) n
    (λ x k. byte_of (packed (layout_of t.output.format) (pixel_colour t memory x y)) k))
    memory

pub none-begun : (t : Task) (y : ℕ) (memory : List ℕ) → memory ≡ prefix t y 0 memory
unfolding prefix
none-begun t y memory = none_rows _ _ _ _ memory

-- all pixels
pub prefix-all : (t : Task) (y : ℕ) (memory : List ℕ) → prefix t y t.output.width memory ≡ draw_row t y memory
unfolding prefix draw_row row_drawn
prefix-all t y memory = row_pixels (row_start t.output y) (bytes_per_pixel t.output.format) t.output.width _ memory (bytes-some t.output.format)

module _ (t : Task) (y n : ℕ) (memory : List ℕ) where
  pub length-begun : length (prefix t y n memory) ≡ length memory
  unfolding prefix
  length-begun = length-mapi _ memory

  -- a byte in none of the first pixels is as it was
  begun_else : (i : ℕ) →
      ((x k : ℕ) → x < n → k < bytes_per_pixel t.output.format → i ≡ row_start t.output y + (x * bytes_per_pixel t.output.format + k) → ⊥) →
      get_or (prefix t y n memory) i 0 ≡ get_or memory i 0
  unfolding prefix
  begun_else i out =
      mapi-stays _ memory i
      (λ old. rows_else (row_start t.output y) (bytes_per_pixel t.output.format) (bytes_per_pixel t.output.format) n _ i old (bytes-some t.output.format) (λ x k u v l e. out x k u v e))

  -- a pixel of a surface that is apart from the output
  apart-kept : (s : Surface) (p : Point) → n ≤ t.output.width → y < t.output.height → DisjointRows s t.output → InPicture (size_of s) p →
      colour_at s (prefix t y n memory) p ≡ colour_at s memory p
  unfolding colour_at
  apart-kept s p l h apart w =
      loaded_same s.format (pixel_start s p.x p.y) (prefix t y n memory) memory length-begun
      (λ b u. begun_else (pixel_start s p.x p.y + b)
      (λ x k a c e. apart (pixel_start s p.x p.y + b) p.y (p.x * bytes_per_pixel s.format + b) y (x * bytes_per_pixel t.output.format + k)
      (record { row = w.down; column = omega (arith, pixel_in_row s p.x w.across); address = omega arith })
      (record { row = h; column = omega (arith, pixel_in_row t.output x (omega arith)); address = omega arith })))

  -- the next pixel of the output itself
  next-kept : colour_at t.output (prefix t y n memory) (record { x = n; y = y }) ≡ colour_at t.output memory (record { x = n; y = y })
  unfolding colour_at
  next-kept =
      loaded_same t.output.format (pixel_start t.output n y) (prefix t y n memory) memory length-begun
      (λ b u. begun_else (pixel_start t.output n y + b)
      (λ x k a c e. omega (arith, next x n (bytes_per_pixel t.output.format) a)))

-- what pixel x of the row reads is as it was before the row
pub pixel_kept : (window : Range) (Reach : Surface → Type 0) (t : Task) → TaskInBounds window Reach t → (memory : List ℕ) (x y : ℕ) →
    x < t.output.width → y < t.output.height → pixel_colour t (prefix t y x memory) x y ≡ pixel_colour t memory x y
pixel_kept window Reach t s memory x y u v =
    pixel_same t (prefix t y x memory) memory x y
    (λ reads. apart-kept t y x memory t.source.surface _ (omega arith) v (s.source reads).separate (origin-within s x y u v))
    (λ on. ⊎_elim
    (λ (a : DisjointRows t.destination.surface t.output). apart-kept t y x memory t.destination.surface _ (omega arith) v a (destination-within s x y u v on))
    (λ (e : t.destination.surface ≡ t.output).
    ap (λ (d : Surface). colour_at d (prefix t y x memory) (record { x = x; y = y })) e
    ∙ next-kept t y x memory
    ∙ sym (ap (λ (d : Surface). colour_at d memory (record { x = x; y = y })) e))
    (s.destination on).separate)

-- one pixel more
pub prefix-step : (window : Range) (Reach : Surface → Type 0) (t : Task) → TaskInBounds window Reach t → (memory₀ memory memory' : List ℕ) (x y : ℕ) →
    x < t.output.width → y < t.output.height → memory ≡ prefix t y x memory₀ →
    memory' ≡ store_pixel t.output.format memory (pixel_start t.output x y) (pixel_colour t memory x y) → memory' ≡ prefix t y (x + 1) memory₀
unfolding prefix
prefix-step window Reach t s memory₀ memory memory' x y u v h m =
    more_stored t.output.format (λ x. pixel_colour t memory₀ x y) (row_start t.output y) memory₀ memory memory' x (pixel_start t.output x y) (pixel_colour t memory x y)
    refl (ap (λ (l : List ℕ). pixel_colour t l x y) h ∙ pixel_kept window Reach t s memory₀ x y u v) h m
