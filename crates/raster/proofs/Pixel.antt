-- A pixel of a task goes by what it reads: but in buffer mode nothing of the source, without blending nothing of the destination.
use mathlib.Core.Path.{◌≡◌, refl, sym, ap₂}
use mathlib.Core.Bool.{Bool, true, false, cond}
use mathlib.Core.List.{List}
use Prim.Native.Nat.{ℕ, ◌≤◌, ◌<◌}
use Rattle.range.specs.declared.Range.{Range}
use Rattle.pixel.specs.declared.colour.Colour.{Colour as Channels}
use Rattle.pixel.specs.Gradient.{gradient_colour}
use Rattle.transform.specs.Transform.{InPicture, rotated_size, mirrored}
use Rattle.transform.specs.declared.Rotation.TheVariants.{Rotate0}
use Rattle.transform.specs.declared.Point.{Point}
use Rattle.transform.proofs.Inside.{source-within}
use Rattle.surface.specs.declared.Surface.{Surface}
use Rattle.register.specs.Task.{is_buffer}
use Rattle.register.specs.declared.task.Source.{Source}
use Rattle.register.specs.declared.task.SourceMode.{SourceMode}
use Rattle.register.specs.declared.task.SourceMode.TheVariants.{Buffer, Colour, GradientX, GradientY}
use Rattle.register.specs.declared.task.Task.{Task}
use Rattle.register.specs.Size.{size_of}
use Rattle.row_pixels.specs.Row.{colour_at, source_pixel_of}
use Rattle.row_pixels.specs.Composite.{composite}
use Rattle.row_pixels.proofs.Straight.{upright_x, upright_y}
use Rattle.raster.specs.Task.{source_mode_colour, source_colour, destination_colour, pixel_colour}
use Rattle.raster.specs.Preconditions.{TaskInBounds}
use Rattle.kinds.specs.Predicates.{is_uniform}
use Rattle.raster.specs.Row.{uniform_colour}

colour_by_same : (m : SourceMode) (s : Source) (memory memory' : List ℕ) (p : Point) →
    (is_buffer m ≡ true → colour_at s.surface memory p ≡ colour_at s.surface memory' p) → source_mode_colour m s memory p ≡ source_mode_colour m s memory' p
colour_by_same Buffer s memory memory' p h = h refl
colour_by_same Colour s memory memory' p h = refl
colour_by_same GradientX s memory memory' p h = refl
colour_by_same GradientY s memory memory' p h = refl

cond_same : (b : Bool) (c c' d d' : Channels) → (b ≡ true → c ≡ c') → (b ≡ false → d ≡ d') → cond b c d ≡ cond b c' d'
cond_same true c c' d d' h k = h refl
cond_same false c c' d d' h k = k refl

module _ (t : Task) (memory memory' : List ℕ) (x y : ℕ) where
  -- two memories that are alike in what a pixel reads
  pub pixel_same :
      (is_buffer t.source.mode ≡ true →
      colour_at t.source.surface memory (source_pixel_of t.source.surface t.source.transform x y)
      ≡ colour_at t.source.surface memory' (source_pixel_of t.source.surface t.source.transform x y)) →
      (t.blending.on ≡ true →
      colour_at t.destination.surface memory (record { x = x; y = y }) ≡ colour_at t.destination.surface memory' (record { x = x; y = y })) →
      pixel_colour t memory x y ≡ pixel_colour t memory' x y
  unfolding pixel_colour source_colour destination_colour
  pixel_same s d =
      let e = colour_by_same t.source.mode t.source memory memory' (source_pixel_of t.source.surface t.source.transform x y) s in
      cond_same t.blending.on _ _ _ _ (λ on. ap₂ (composite t.blending t.source.alpha t.destination.alpha) e (d on)) (λ off. e)

-- the colour of a pixel, by blending
module _ (t : Task) (memory : List ℕ) (x y : ℕ) where
  pub pixel_blended : t.blending.on ≡ true →
      pixel_colour t memory x y
      ≡ composite t.blending t.source.alpha t.destination.alpha (source_colour t.source memory x y) (destination_colour t.destination memory x y)
  unfolding pixel_colour
  pixel_blended e = rw e

  pub pixel_plain : t.blending.on ≡ false → pixel_colour t memory x y ≡ source_colour t.source memory x y
  unfolding pixel_colour
  pixel_plain e = rw e

-- ---- a source that is not turned

pub uniform_unread : (m : SourceMode) → is_uniform m ≡ true → is_buffer m ≡ false
uniform_unread Buffer e = sym e
uniform_unread Colour e = refl
uniform_unread GradientX e = refl
uniform_unread GradientY e = refl

module _ (s : Source) (upright : s.transform.rotation ≡ Rotate0) where
  pub upright-across : (width : ℕ) → width ≤ (rotated_size s.transform.rotation (size_of s.surface)).width → width ≤ s.surface.width
  upright-across width h = rw upright at h

  pub upright-down : (y : ℕ) → y < (rotated_size s.transform.rotation (size_of s.surface)).height → y < s.surface.height
  upright-down y h = rw upright at h

module _ (s : Source) (memory : List ℕ) (x y : ℕ) where
  -- shaded along x
  pub source-across : s.mode ≡ GradientX → s.transform.rotation ≡ Rotate0 →
      gradient_colour s.colour s.steps (mirrored s.transform.flip.horizontal s.surface.width x) ≡ source_colour s memory x y
  unfolding source_colour
  source-across e upright = rw (e, upright_x s.surface s.transform upright x y)

  -- or with one colour a row
  pub source_uniform : is_uniform s.mode ≡ true → (is_buffer s.mode ≡ false → s.transform.rotation ≡ Rotate0) →
      uniform_colour s.mode s y ≡ source_colour s memory x y
  unfolding source_colour
  source_uniform e upright = go s.mode e upright
    where
      go : (m : SourceMode) → is_uniform m ≡ true → (is_buffer m ≡ false → s.transform.rotation ≡ Rotate0) →
          uniform_colour m s y ≡ source_mode_colour m s memory (source_pixel_of s.surface s.transform x y)
      go Buffer e u = let z : false ≡ true = e in cc
      go Colour e u = refl
      go GradientX e u = let z : false ≡ true = e in cc
      go GradientY e u = rw (upright_y s.surface s.transform (u refl) x y)

-- ---- which pixels are read

module _ {window : Range} {Reach : Surface → Type 0} {t : Task} (s : TaskInBounds window Reach t) (x y : ℕ) (u : x < t.output.width) (v : y < t.output.height) where
  -- an output pixel is one of the turned source
  pub output-within : InPicture (rotated_size t.source.transform.rotation (size_of t.source.surface)) (record { x = x; y = y })
  output-within = rw s.size (record { across = u; down = v })

  -- the source pixel is one of the source
  pub origin-within : InPicture (size_of t.source.surface) (source_pixel_of t.source.surface t.source.transform x y)
  unfolding source_pixel_of
  origin-within = source-within t.source.transform (size_of t.source.surface) (record { x = x; y = y }) output-within

  -- the destination pixel is one of the destination
  pub destination-within : t.blending.on ≡ true → InPicture (size_of t.destination.surface) (record { x = x; y = y })
  destination-within on = rw (s.destination on).size (record { across = u; down = v })
