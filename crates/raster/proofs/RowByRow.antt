-- A task drawn row by row, from the memory as it is then, is the task drawn at once from the memory before it. The rows that
-- are drawn already change nothing that a later row reads: no output byte is a source byte, and a destination is apart from the
-- output too, or is the output, of which the row to come is as it was.
use mathlib.Core.Path.{◌≡◌, refl, sym, ap, ◌∙◌}
use mathlib.Core.List.{List}
use mathlib.Core.Logic.{⊎_elim}
use Prim.Native.Nat.{ℕ, ◌+◌, ◌*◌, ◌≤◌, ◌<◌}
use native.Mathlib.Omega.{arith}
use lib.ListN.{length, get_or}
use Rattle.range.specs.declared.Range.{Range}
use Rattle.pixel.specs.Formats.{bytes_per_pixel, layout_of}
use Rattle.pixel.specs.Colours.{packed}
use Rattle.transform.specs.Transform.{InPicture}
use Rattle.transform.specs.declared.Point.{Point}
use Rattle.surface.specs.Surface.{row_length, row_start, pixel_start, DisjointRows}
use Rattle.surface.specs.Memory.{mapi}
use Rattle.surface.specs.Rows.{overwrite_rows, row_byte}
use Rattle.surface.specs.Drawn.{draw_rectangle, draw_surface}
use Rattle.surface.specs.declared.Surface.{Surface}
use Rattle.surface.proofs.Sizes.{bytes-some}
use Rattle.surface.proofs.Mapi.{length-mapi, mapi-stays}
use Rattle.surface.proofs.Rows.{next, rows_else, none_rows, turn_rows}
use Rattle.surface.proofs.Outside.{pixel_in_row}
use Rattle.surface.proofs.Loaded.{loaded_same}
use Rattle.register.specs.declared.task.Task.{Task}
use Rattle.register.specs.Size.{size_of}
use Rattle.row_pixels.specs.Row.{colour_at}
use Rattle.raster.specs.Task.{pixel_colour, draw_task}
use Rattle.raster.specs.Preconditions.{ValidRectangle, TaskInBounds}
use Rattle.raster.specs.Row.{row_drawn, draw_row}
use Rattle.raster.proofs.Slices.{row_ext}
use Rattle.raster.proofs.Pixel.{pixel_same, origin-within, destination-within}

-- a rectangle's stride is positive
pub stride-some : (s : Surface) → ValidRectangle s → 0 < s.stride
stride-some s r = omega (arith, next 0 s.width (bytes_per_pixel s.format) r.width_positive, bytes-some s.format, r.rows_apart)

-- memory after the first n rows of a task
unfoldable pub prefix : Task → ℕ → List ℕ → List ℕ
prefix t n memory =
    mapi
    (overwrite_rows t.output.address t.output.stride (row_length t.output) n
    (λ (y : ℕ). row_byte (bytes_per_pixel t.output.format) (λ (x : ℕ). packed (layout_of t.output.format) (pixel_colour t memory x y))))
    memory

pub none-begun : (t : Task) (memory : List ℕ) → memory ≡ prefix t 0 memory
unfolding prefix
none-begun t memory = none_rows _ _ _ _ memory

-- all rows
pub prefix-all : (t : Task) (memory : List ℕ) → prefix t t.output.height memory ≡ draw_task t memory
unfolding prefix draw_task draw_surface draw_rectangle
prefix-all t memory = refl

module _ (t : Task) (n : ℕ) (memory : List ℕ) where
  pub length-begun : length (prefix t n memory) ≡ length memory
  unfolding prefix
  length-begun = length-mapi _ memory

  -- a byte in none of the first rows is as it was
  pub begun_else : 0 < t.output.stride → (i : ℕ) →
      ((v k : ℕ) → v < n → k < row_length t.output → i ≡ t.output.address + (v * t.output.stride + k) → ⊥) →
      get_or (prefix t n memory) i 0 ≡ get_or memory i 0
  unfolding prefix
  begun_else z i out =
      mapi-stays _ memory i
      (λ old. rows_else t.output.address t.output.stride (row_length t.output) n _ i old z (λ v k u w l e. out v k u w e))

  -- a pixel of a surface that is apart from the output
  pub apart-kept : (s : Surface) (p : Point) → 0 < t.output.stride → n ≤ t.output.height → DisjointRows s t.output → InPicture (size_of s) p →
      colour_at s (prefix t n memory) p ≡ colour_at s memory p
  unfolding colour_at
  apart-kept s p z l apart w =
      loaded_same s.format (pixel_start s p.x p.y) (prefix t n memory) memory length-begun
      (λ b u. begun_else z (pixel_start s p.x p.y + b)
      (λ v k a c e. apart (pixel_start s p.x p.y + b) p.y (p.x * bytes_per_pixel s.format + b) v k
      (record { row = w.down; column = omega (arith, pixel_in_row s p.x w.across); address = omega arith })
      (record { row = omega arith; column = c; address = omega arith })))

  -- a pixel of the output itself, in a row that is still to come
  pub later-kept : (x y : ℕ) → ValidRectangle t.output → n ≤ y →
      colour_at t.output (prefix t n memory) (record { x = x; y = y }) ≡ colour_at t.output memory (record { x = x; y = y })
  unfolding colour_at
  later-kept x y r l =
      loaded_same t.output.format (pixel_start t.output x y) (prefix t n memory) memory length-begun
      (λ b u. begun_else (stride-some t.output r) (pixel_start t.output x y + b)
      (λ v k a c e.
      let above : v * t.output.stride + t.output.stride ≤ y * t.output.stride = next v y t.output.stride (omega arith) in
      omega (arith, r.rows_apart)))

-- what row y reads is as it was before the task
pub pixel_kept : (window : Range) (Reach : Surface → Type 0) (t : Task) → TaskInBounds window Reach t → (memory : List ℕ) (x y : ℕ) →
    x < t.output.width → y < t.output.height → pixel_colour t (prefix t y memory) x y ≡ pixel_colour t memory x y
pixel_kept window Reach t s memory x y u v =
    pixel_same t (prefix t y memory) memory x y
    (λ reads. apart-kept t y memory t.source.surface _ z (omega arith) (s.source reads).separate (origin-within s x y u v))
    (λ on. ⊎_elim
    (λ (a : DisjointRows t.destination.surface t.output). apart-kept t y memory t.destination.surface _ z (omega arith) a (destination-within s x y u v on))
    (λ (e : t.destination.surface ≡ t.output).
    ap (λ (d : Surface). colour_at d (prefix t y memory) (record { x = x; y = y })) e
    ∙ later-kept t y memory x y s.output (omega arith)
    ∙ sym (ap (λ (d : Surface). colour_at d memory (record { x = x; y = y })) e))
    (s.destination on).separate)
  where
    z : 0 < t.output.stride
    z = stride-some t.output s.output

-- one row more
pub prefix-step : (window : Range) (Reach : Surface → Type 0) (t : Task) → TaskInBounds window Reach t → (memory₀ memory memory' : List ℕ) (y : ℕ) →
    y < t.output.height → memory ≡ prefix t y memory₀ → memory' ≡ draw_row t y memory → memory' ≡ prefix t (y + 1) memory₀
unfolding prefix draw_row row_drawn
prefix-step window Reach t s memory₀ memory memory' y v h m =
    turn_rows t.output.address t.output.stride (row_length t.output) _ memory₀ memory memory' y (row_start t.output y)
    (stride-some t.output s.output) s.output.rows_apart refl h
    (m
    ∙ row_ext t.output (row_start t.output y) (λ x. pixel_colour t memory x y) (λ x. pixel_colour t memory₀ x y) memory
    (λ x u. ap (λ (l : List ℕ). pixel_colour t l x y) h ∙ pixel_kept window Reach t s memory₀ x y u v))
