-- Two settings draw every picture alike exactly if they have the same orientation.
use mathlib.Core.Path.{◌≡◌, refl, ap}
use mathlib.Core.List.{List, [], ◌∷◌}
use Prim.Native.Nat.{ℕ, ◌+◌, ◌*◌}
use lib.Dec.{lit<, lit≤}
use lib.ListN.{length, get_or}
use Rattle.word.specs.Word.{byte_of}
use Rattle.pixel.specs.Colours.{packed, unpacked, widened, narrowed}
use Rattle.pixel.specs.declared.format.Format.TheVariants.{Rgb565}
use Rattle.transform.specs.Transform.{source_pixel}
use Rattle.orientation.specs.Compose.{opposite, SameOrientation}
use Rattle.orientation.specs.Laws.{Alike}
use Rattle.transform.specs.declared.Transform.{Transform}
use Rattle.orientation.proofs.Settings.{distinguishes}
use Rattle.orientation.proofs.Same.{exactly, turned-square}
use Rattle.surface.specs.declared.Surface.{Surface}
use Rattle.surface.specs.Surface.{span}
use Rattle.surface.specs.Memory.{mapi, pixel_at}
use Rattle.surface.specs.Rows.{overwrite_rows, row_byte}
use Rattle.surface.specs.Drawn.{load_pixel, draw_rectangle, draw_surface}
use Rattle.surface.proofs.Outside.{drawn_on_ext}
use Rattle.register.specs.Size.{size_of}
use Rattle.row_pixels.specs.Row.{colour_at, source_pixel_of}
use Rattle.raster.specs.Twice.{turned, Fits, EqualDrawing, Orientations}
use Rattle.raster.proofs.RowByRow.{stride-some}

-- ---- the same orientation

equal : (a b : Transform) → Alike a b → EqualDrawing a b
unfolding turned source_pixel_of
equal a b h = record {
  size = h.size;
  bytes = λ s o memory f.
      drawn_on_ext o _ _ memory (stride-some o f.rows)
      (λ x y u v. ap (colour_at s memory) (h.source (size_of s) (record { x = x; y = y }) (rw f.size (record { across = u; down = v }))));
}

-- ---- another orientation: a picture of 2 by 2 that shows the difference

-- the pixels 1, 2, 3 and 4, and room for them
memory : List ℕ
memory = 1 ∷ 0 ∷ 2 ∷ 0 ∷ 3 ∷ 0 ∷ 4 ∷ 0 ∷ 0 ∷ 0 ∷ 0 ∷ 0 ∷ 0 ∷ 0 ∷ 0 ∷ 0 ∷ []

abbrev picture : ℕ → Surface
picture at = record { address = at; stride = 4; width = 2; height = 2; format = Rgb565 }

shown : Transform → List ℕ
shown t = turned (picture 0) t (picture 8) memory

-- the first two pixels of what came out, as one number
abbrev first : List ℕ → ℕ
first bytes = get_or bytes 8 0 + 5 * get_or bytes 10 0

shown_same : (a b : Transform) → shown a ≡ shown b → SameOrientation a b
unfolding shown memory turned opposite draw_surface draw_rectangle mapi overwrite_rows row_byte byte_of colour_at source_pixel_of load_pixel pixel_at packed unpacked widened narrowed source_pixel
shown_same a b e = distinguishes (λ (t : Transform). first (shown t)) tt a b (ap first e)

fits : (t : Transform) → Fits (length memory) (picture 0) t (picture 8)
unfolding memory span
fits t = record {
  size = turned-square t.rotation;
  format = refl;
  rows = record { width_positive = lit< tt; width_max = lit≤ tt; height_positive = lit< tt; height_max = lit≤ tt; rows_apart = lit≤ tt };
  inside = lit≤ tt;
}

same : (a b : Transform) → EqualDrawing a b → SameOrientation a b
unfolding shown
same a b h = shown_same a b (h.bytes (picture 0) (picture 8) memory (fits a))

pub orientations : Orientations
orientations a b = (same a b, λ o. equal a b (exactly.alike a b o))
