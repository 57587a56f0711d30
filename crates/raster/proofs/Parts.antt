-- What a task of a kind has.
use mathlib.Core.Path.{◌≡◌, refl}
use mathlib.Core.Bool.{Bool, true, false, not, cond, ◌&&◌, false≢true}
use lib.Dec.{eqb}
use borrow.Author.Tests.{eqb-true, not-true}
use Rattle.word.proofs.Tests.{and-true}
use Rattle.range.specs.declared.Range.{Range}
use Rattle.pixel.specs.Rules.{blend_mode_factors}
use Rattle.pixel.specs.declared.blend.AlphaMode.{AlphaMode}
use Rattle.pixel.specs.declared.blend.AlphaMode.TheVariants.{Pixel, Global, Mixed}
use Rattle.pixel.specs.declared.blend.Factor.{Factor}
use Rattle.pixel.specs.declared.blend.Factor.TheVariants.{Zero, One, SourceAlpha, InverseSourceAlpha, DestinationAlpha, InverseDestinationAlpha}
use Rattle.pixel.specs.declared.blend.BlendFactors.{BlendFactors}
use Rattle.pixel.specs.declared.blend.BlendMode.TheVariants.{SrcOver}
use Rattle.pixel.specs.declared.format.Format.TheVariants.{Argb8888}
use Rattle.transform.specs.declared.Rotation.TheVariants.{Rotate0}
use Rattle.register.specs.Task.{is_buffer}
use Rattle.register.specs.declared.task.SourceMode.{SourceMode}
use Rattle.register.specs.declared.task.SourceMode.TheVariants.{Buffer, Colour, GradientX, GradientY}
use Rattle.register.specs.declared.task.Task.{Task}
use Rattle.task_check.specs.Rules.{same_format}
use Rattle.task_check.proofs.Passes.{same-format}
use Rattle.row_pixels.specs.Strided.{is_identity_row}
use Rattle.row_pixels.proofs.Straight.{straight}
use Rattle.kinds.specs.Predicates.{is_uniform, is_colour, is_pixel_mode, is_one, is_inverse_source_alpha, is_src_over, is_moved, is_in_place}
use Rattle.kinds.specs.Kinds.{source_in_window, is_solid, is_blended_within, kind_of, finish_of}
use Rattle.kinds.specs.declared.Finish.{Finish}
use Rattle.kinds.specs.declared.Finish.TheVariants.{Copied, InPlace, Blended}
use Rattle.kinds.specs.declared.Kind.{Kind}
use Rattle.kinds.specs.declared.Kind.TheVariants.{Filled, Moved, Carried, Solid, Within, Buffered}

-- ---- tests that hold

colour-is : (m : SourceMode) → is_colour m ≡ true → m ≡ Colour
colour-is Buffer e = absurd (false≢true e)
colour-is Colour e = refl
colour-is GradientX e = absurd (false≢true e)
colour-is GradientY e = absurd (false≢true e)

pixel_is : (m : AlphaMode) → is_pixel_mode m ≡ true → m ≡ Pixel
pixel_is Pixel e = refl
pixel_is Global e = absurd (false≢true e)
pixel_is Mixed e = absurd (false≢true e)

one-is : (f : Factor) → is_one f ≡ true → f ≡ One
one-is Zero e = absurd (false≢true e)
one-is One e = refl
one-is SourceAlpha e = absurd (false≢true e)
one-is InverseSourceAlpha e = absurd (false≢true e)
one-is DestinationAlpha e = absurd (false≢true e)
one-is InverseDestinationAlpha e = absurd (false≢true e)

inverse-is : (f : Factor) → is_inverse_source_alpha f ≡ true → f ≡ InverseSourceAlpha
inverse-is Zero e = absurd (false≢true e)
inverse-is One e = absurd (false≢true e)
inverse-is SourceAlpha e = absurd (false≢true e)
inverse-is InverseSourceAlpha e = refl
inverse-is DestinationAlpha e = absurd (false≢true e)
inverse-is InverseDestinationAlpha e = absurd (false≢true e)

factors_are : (s d : Factor) → s ≡ One → d ≡ InverseSourceAlpha → record { source = s; destination = d } ≡ blend_mode_factors SrcOver
factors_are s d e f = rw (e, f)

src_over-is : (r : BlendFactors) → is_src_over r ≡ true → r ≡ blend_mode_factors SrcOver
src_over-is r e =
    let b = and-true (is_one r.source) (is_inverse_source_alpha r.destination) e in
    factors_are r.source r.destination (one-is r.source b.0) (inverse-is r.destination b.1)

-- ---- the tests of a task

-- its output rows are rows of its source
pub record MovedTask (t : Task) : Type 0 where
  pub buffer : is_buffer t.source.mode ≡ true
  pub upright : t.source.transform.rotation ≡ Rotate0
  pub kept : t.source.transform.flip.horizontal ≡ false
  pub format : t.source.surface.format ≡ t.output.format

-- its output is its own destination
pub record Placed (t : Task) : Type 0 where
  pub from : t.destination.surface.format ≡ Argb8888
  pub to : t.output.format ≡ Argb8888
  pub address : t.destination.surface.address ≡ t.output.address
  pub stride : t.destination.surface.stride ≡ t.output.stride

moved_task : (t : Task) → is_moved t.source t.output ≡ true → MovedTask t
unfolding is_moved
moved_task t e =
    let buffer = is_buffer t.source.mode in
    let straight? = is_identity_row t.source.transform.rotation t.source.transform.flip in
    let both = and-true (buffer && straight?) (same_format t.source.surface.format t.output.format) e in
    let first = and-true buffer straight? both.0 in
    let h = straight t.source.transform first.1 in
    record { buffer = first.0; upright = h.0; kept = h.1; format = same-format t.source.surface.format t.output.format both.1 }

placed : (t : Task) → is_in_place t.destination.surface t.output ≡ true → Placed t
unfolding is_in_place
placed t e =
    let d = t.destination.surface in
    let o = t.output in
    let from? = same_format d.format Argb8888 in
    let to? = same_format o.format Argb8888 in
    let address? = eqb d.address o.address in
    let stride? = eqb d.stride o.stride in
    let three = and-true (from? && to? && address?) stride? e in
    let two = and-true (from? && to?) address? three.0 in
    let one = and-true from? to? two.0 in
    record {
      from = same-format d.format Argb8888 one.0;
      to = same-format o.format Argb8888 one.1;
      address = eqb-true d.address o.address two.1;
      stride = eqb-true d.stride o.stride three.1;
    }

-- ---- the kinds

pub record FilledTask (t : Task) : Type 0 where
  pub plain : t.blending.on ≡ false
  pub uniform : is_uniform t.source.mode ≡ true

pub record CarriedTask (t : Task) : Type 0 where
  pub plain : t.blending.on ≡ false
  pub moved : MovedTask t

pub record MovedWithin (window : Range) (t : Task) : Type 0 where
  pub plain : t.blending.on ≡ false
  pub moved : MovedTask t
  pub inside : source_in_window window t ≡ true

pub record SolidTask (t : Task) : Type 0 where
  pub on : t.blending.on ≡ true
  pub rule : t.blending.rule ≡ blend_mode_factors SrcOver
  pub mode : t.source.mode ≡ Colour
  pub alphas : t.destination.alpha.mode ≡ Pixel
  pub placed : Placed t

pub record BlendedWithin (window : Range) (t : Task) : Type 0 where
  pub on : t.blending.on ≡ true
  pub moved : MovedTask t
  pub inside : source_in_window window t ≡ true
  pub placed : Placed t
  pub plain : t.blending.premultiplied ≡ false
  pub source : t.source.alpha.mode ≡ Pixel
  pub destination : t.destination.alpha.mode ≡ Pixel

solid_task : (t : Task) → t.blending.on ≡ true → is_solid t ≡ true → SolidTask t
unfolding is_solid
solid_task t on e =
    let rule = t.blending.rule in
    let over? = is_src_over rule in
    let colour? = is_colour t.source.mode in
    let pixel? = is_pixel_mode t.destination.alpha.mode in
    let three = and-true (over? && colour? && pixel?) (is_in_place t.destination.surface t.output) e in
    let two = and-true (over? && colour?) pixel? three.0 in
    let one = and-true over? colour? two.0 in
    record {
      on = on;
      rule = src_over-is rule one.0;
      mode = colour-is t.source.mode one.1;
      alphas = pixel_is t.destination.alpha.mode two.1;
      placed = placed t three.1;
    }

blended-within : (window : Range) (t : Task) → t.blending.on ≡ true → is_blended_within window t ≡ true → BlendedWithin window t
unfolding is_blended_within
blended-within window t on e =
    let moved? = is_moved t.source t.output in
    let inside? = source_in_window window t in
    let place? = is_in_place t.destination.surface t.output in
    let plain? = not t.blending.premultiplied in
    let source? = is_pixel_mode t.source.alpha.mode in
    let destination? = is_pixel_mode t.destination.alpha.mode in
    let five = and-true (moved? && inside? && place? && plain? && source?) destination? e in
    let four = and-true (moved? && inside? && place? && plain?) source? five.0 in
    let three = and-true (moved? && inside? && place?) plain? four.0 in
    let two = and-true (moved? && inside?) place? three.0 in
    let one = and-true moved? inside? two.0 in
    record {
      on = on;
      moved = moved_task t one.0;
      inside = one.1;
      placed = placed t two.1;
      plain = not-true _ three.1;
      source = pixel_is t.source.alpha.mode four.1;
      destination = pixel_is t.destination.alpha.mode five.1;
    }

abbrev pub KindFits : Kind → Range → Task → Type 0
KindFits Filled window t = FilledTask t
KindFits Moved window t = MovedWithin window t
KindFits Carried window t = CarriedTask t
KindFits Solid window t = SolidTask t
KindFits Within window t = BlendedWithin window t
KindFits Buffered window t = Unit {0}

module _ (P : Kind → Type 0) where
  chosen : (on solid within moved inside uniform : Bool) → (on ≡ true → solid ≡ true → P Solid) → (on ≡ true → within ≡ true → P Within) →
      (on ≡ false → moved ≡ true → inside ≡ true → P Moved) → (on ≡ false → moved ≡ true → P Carried) → (on ≡ false → uniform ≡ true → P Filled) → P Buffered →
      P (cond on (cond solid Solid (cond within Within Buffered)) (cond moved (cond inside Moved Carried) (cond uniform Filled Buffered)))
  chosen true true within moved inside uniform s w m c f b = s refl refl
  chosen true false true moved inside uniform s w m c f b = w refl refl
  chosen true false false moved inside uniform s w m c f b = b
  chosen false solid within true true uniform s w m c f b = m refl refl refl
  chosen false solid within true false uniform s w m c f b = c refl refl
  chosen false solid within false inside true s w m c f b = f refl refl
  chosen false solid within false inside false s w m c f b = b

-- a task is of its kind
kind_fits : (window : Range) (t : Task) → KindFits (kind_of window t) window t
unfolding kind_of
kind_fits window t =
    chosen (λ (k : Kind). KindFits k window t)
    t.blending.on (is_solid t) (is_blended_within window t) (is_moved t.source t.output) (source_in_window window t) (is_uniform t.source.mode)
    (solid_task t)
    (blended-within window t)
    (λ off e i. record { plain = off; moved = moved_task t e; inside = i })
    (λ off e. record { plain = off; moved = moved_task t e })
    (λ off e. record { plain = off; uniform = e })
    tt

pub of_kind : (window : Range) (t : Task) (k : Kind) → kind_of window t ≡ k → KindFits k window t
of_kind window t k e = rw e at (kind_fits window t)

-- ---- the ways in which rows in buffers are finished

abbrev pub FinishFits : Finish → Task → Type 0
FinishFits Copied t = t.blending.on ≡ false
FinishFits InPlace t = (t.blending.on ≡ true) × Placed t
FinishFits Blended t = t.blending.on ≡ true

finished : (P : Finish → Type 0) (on place : Bool) → (on ≡ true → place ≡ true → P InPlace) → (on ≡ true → P Blended) → (on ≡ false → P Copied) →
    P (cond on (cond place InPlace Blended) Copied)
finished P true true i b c = i refl refl
finished P true false i b c = b refl
finished P false place i b c = c refl

finish-fits : (t : Task) → FinishFits (finish_of t) t
unfolding finish_of
finish-fits t = finished (λ (f : Finish). FinishFits f t) t.blending.on (is_in_place t.destination.surface t.output) (λ on e. (on, placed t e)) (λ on. on) (λ off. off)

pub of-finish : (t : Task) (f : Finish) → f ≡ finish_of t → FinishFits f t
of-finish t f e = rw e (finish-fits t)
