-- A page in memory, named by numbers. The rectangles that can be shown: sides as 01 allows them in a task, a stride that its register holds, and a span in the memory
-- of a replay (01, "Writer and replay": 65,536 bytes).
use Rattle.std.specs.Prelude.{ℕ, Bool, cond, ◌&&◌, leb, ltb, Option, Some, None}
use Rattle.range.specs.Range.{range_of, contained_in}
use Rattle.pixel.specs.declared.format.Format.{Format}
use Rattle.surface.specs.declared.Surface.{Surface}
use Rattle.surface.specs.Surface.{span, pixel_start}

-- 1 to 4,096, as fault 25 leaves them
abbrev pub is_side : ℕ → Bool
is_side side = leb 1 side && leb side 4096

abbrev pub rectangle_surface : (address stride width height : ℕ) → Format → Surface
rectangle_surface address stride width height format = record { address = address; stride = stride; width = width; height = height; format = format }

abbrev pub is_shown : Surface → Bool
is_shown s = is_side s.width && is_side s.height && ltb s.stride 65536 && contained_in (span s) (range_of 0 65536)

-- the surface of these numbers, if it can be shown
unfoldable pub rectangle_of : (address stride width height : ℕ) → Format → Option Surface
rectangle_of address stride width height format =
    let s : Surface = rectangle_surface address stride width height format in
    cond (is_shown s) (Some s) None

-- the first byte of pixel (x, y) of a page: sides and stride have the same limits. The byte may lie outside memory
unfoldable pub pixel_of : (address stride : ℕ) → Format → (x y : ℕ) → Option ℕ
pixel_of address stride format x y =
    cond (ltb stride 65536 && ltb x 4096 && ltb y 4096)
    (Some (pixel_start (rectangle_surface address stride 4096 4096 format) x y))
    None
