-- What allowed fields are held to, a fact for each field.
use mathlib.Core.Path.{◌≡◌, refl}
use mathlib.Core.Bool.{Bool, true, false, ◌&&◌, ◌||◌}
use mathlib.Core.Logic.{◌⊎◌, inl, inr, ⊎_elim}
use Prim.Native.Nat.{ℕ, ◌^◌, ◌≤◌, ◌<◌}
use native.Mathlib.Omega.{arith}
use lib.Dec.{eqb}
use borrow.Author.Tests.{ltb-true, leb-true, eqb-true}
use Rattle.word.proofs.Tests.{and-true}
use Rattle.pixel.specs.Formats.{is_format}
use Rattle.pixel.specs.Alpha.{is_alpha_mode}
use Rattle.pixel.specs.Blending.{is_factor}
use Rattle.pixel.specs.declared.gradient.Steps.{Steps}
use Rattle.encoder.specs.declared.fields.SurfaceFields.{SurfaceFields}
use Rattle.encoder.specs.declared.fields.AlphaFields.{AlphaFields}
use Rattle.encoder.specs.declared.fields.TransformFields.{TransformFields}
use Rattle.encoder.specs.declared.fields.SourceFields.{SourceFields}
use Rattle.encoder.specs.declared.fields.DestinationFields.{DestinationFields}
use Rattle.encoder.specs.declared.fields.BlendingFields.{BlendingFields}
use Rattle.encoder.specs.declared.fields.Fields.{Fields}
use Rattle.encoder.specs.Fields.{fits_in, surface_allowed, alpha_allowed, transform_allowed, source_allowed, destination_allowed, blending_allowed, steps_allowed, allowed}

pub record SurfaceFits (s : SurfaceFields) : Type 0 where
  pub width : s.width < 2 ^ 13
  pub height : s.height < 2 ^ 13
  pub stride : s.stride < 2 ^ 16
  pub format : s.format < 2 ^ 7
  pub code : is_format s.format ≡ true

pub record AlphaFits (a : AlphaFields) : Type 0 where
  pub mode : a.mode ≤ 2
  pub global : a.global < 2 ^ 8

pub record TransformFits (t : TransformFields) : Type 0 where
  pub horizontal : t.horizontal < 2
  pub vertical : t.vertical < 2
  pub rotation : t.rotation < 4

pub record SourceFits (s : SourceFields) : Type 0 where
  pub surface : SurfaceFits s.surface
  pub alpha : AlphaFits s.alpha
  pub transform : TransformFits s.transform
  pub mode : s.mode < 4
  pub enable : s.enable < 2

pub record DestinationFits (d : DestinationFields) : Type 0 where
  pub surface : SurfaceFits d.surface
  pub alpha : AlphaFits d.alpha
  pub enable : d.enable < 2

pub record BlendingFits (b : BlendingFields) : Type 0 where
  pub source : b.source ≤ 5
  pub destination : b.destination ≤ 5
  pub on : b.on < 2
  pub premultiplied : b.premultiplied < 2

pub record StepsFits (s : Steps) : Type 0 where
  pub alpha : s.alpha < 2 ^ 25
  pub red : s.red < 2 ^ 25
  pub green : s.green < 2 ^ 25
  pub blue : s.blue < 2 ^ 25

-- the parts of `allowed`
pub record Parts (f : Fields) : Type 0 where
  pub source : source_allowed f.source ≡ true
  pub destination : destination_allowed f.destination ≡ true
  pub output : surface_allowed f.output ≡ true
  pub blending : blending_allowed f.blending ≡ true

-- a disjunction that holds
or_true : (a b : Bool) → a || b ≡ true → (a ≡ true) ⊎ (b ≡ true)
or_true true b e = inl refl
or_true false b e = inr e

-- a format's code fits its bits
format_small : (code : ℕ) → is_format code ≡ true → code < 2 ^ 7
format_small code e =
    ⊎_elim
    (λ l. ⊎_elim (λ m. omega (arith, eqb-true code 0 m)) (λ m. omega (arith, eqb-true code 8 m)) (or_true (eqb code 0) (eqb code 8) l))
    (λ r. omega (arith, eqb-true code 14 r))
    (or_true (eqb code 0 || eqb code 8) (eqb code 14) e)

pub surface_fits : (s : SurfaceFields) → surface_allowed s ≡ true → SurfaceFits s
unfolding surface_allowed
surface_fits s ok =
    let width : Bool = fits_in 13 s.width in
    let height : Bool = fits_in 13 s.height in
    let stride : Bool = fits_in 16 s.stride in
    let three = and-true (width && height && stride) (is_format s.format) ok in
    let two = and-true (width && height) stride three.0 in
    let one = and-true width height two.0 in
    record {
      width = ltb-true s.width (2 ^ 13) one.0;
      height = ltb-true s.height (2 ^ 13) one.1;
      stride = ltb-true s.stride (2 ^ 16) two.1;
      format = format_small s.format three.1;
      code = three.1;
    }

pub alpha-fits : (a : AlphaFields) → alpha_allowed a ≡ true → AlphaFits a
unfolding alpha_allowed
alpha-fits a ok =
    let one = and-true (is_alpha_mode a.mode) (fits_in 8 a.global) ok in
    record { mode = leb-true a.mode 2 one.0; global = ltb-true a.global (2 ^ 8) one.1 }

pub transform_fits : (t : TransformFields) → transform_allowed t ≡ true → TransformFits t
unfolding transform_allowed
transform_fits t ok =
    let horizontal : Bool = fits_in 1 t.horizontal in
    let vertical : Bool = fits_in 1 t.vertical in
    let two = and-true (horizontal && vertical) (fits_in 2 t.rotation) ok in
    let one = and-true horizontal vertical two.0 in
    record {
      horizontal = ltb-true t.horizontal 2 one.0;
      vertical = ltb-true t.vertical 2 one.1;
      rotation = ltb-true t.rotation 4 two.1;
    }

-- the parts of `source_allowed`
pub record SourceParts (s : SourceFields) : Type 0 where
  pub surface : surface_allowed s.surface ≡ true
  pub alpha : alpha_allowed s.alpha ≡ true
  pub transform : transform_allowed s.transform ≡ true
  pub mode : s.mode < 4
  pub enable : s.enable < 2

pub source_parts : (s : SourceFields) → source_allowed s ≡ true → SourceParts s
unfolding source_allowed
source_parts s ok =
    let surface : Bool = surface_allowed s.surface in
    let alpha : Bool = alpha_allowed s.alpha in
    let transform : Bool = transform_allowed s.transform in
    let mode : Bool = fits_in 2 s.mode in
    let four = and-true (surface && alpha && transform && mode) (fits_in 1 s.enable) ok in
    let three = and-true (surface && alpha && transform) mode four.0 in
    let two = and-true (surface && alpha) transform three.0 in
    let one = and-true surface alpha two.0 in
    record {
      surface = one.0;
      alpha = one.1;
      transform = two.1;
      mode = ltb-true s.mode 4 three.1;
      enable = ltb-true s.enable 2 four.1;
    }

pub source_fits : (s : SourceFields) → source_allowed s ≡ true → SourceFits s
source_fits s ok =
    let parts = source_parts s ok in
    record {
      surface = surface_fits s.surface parts.surface;
      alpha = alpha-fits s.alpha parts.alpha;
      transform = transform_fits s.transform parts.transform;
      mode = parts.mode;
      enable = parts.enable;
    }

-- the parts of `destination_allowed`
pub record DestinationParts (d : DestinationFields) : Type 0 where
  pub surface : surface_allowed d.surface ≡ true
  pub alpha : alpha_allowed d.alpha ≡ true
  pub enable : d.enable < 2

pub destination_parts : (d : DestinationFields) → destination_allowed d ≡ true → DestinationParts d
unfolding destination_allowed
destination_parts d ok =
    let surface : Bool = surface_allowed d.surface in
    let alpha : Bool = alpha_allowed d.alpha in
    let two = and-true (surface && alpha) (fits_in 1 d.enable) ok in
    let one = and-true surface alpha two.0 in
    record { surface = one.0; alpha = one.1; enable = ltb-true d.enable 2 two.1 }

pub destination-fits : (d : DestinationFields) → destination_allowed d ≡ true → DestinationFits d
destination-fits d ok =
    let parts = destination_parts d ok in
    record {
      surface = surface_fits d.surface parts.surface;
      alpha = alpha-fits d.alpha parts.alpha;
      enable = parts.enable;
    }

pub blending_fits : (b : BlendingFields) → blending_allowed b ≡ true → BlendingFits b
unfolding blending_allowed
blending_fits b ok =
    let source : Bool = is_factor b.source in
    let destination : Bool = is_factor b.destination in
    let on : Bool = fits_in 1 b.on in
    let three = and-true (source && destination && on) (fits_in 1 b.premultiplied) ok in
    let two = and-true (source && destination) on three.0 in
    let one = and-true source destination two.0 in
    record {
      source = leb-true b.source 5 one.0;
      destination = leb-true b.destination 5 one.1;
      on = ltb-true b.on 2 two.1;
      premultiplied = ltb-true b.premultiplied 2 three.1;
    }

pub steps_fit : (s : Steps) → steps_allowed s ≡ true → StepsFits s
unfolding steps_allowed
steps_fit s ok =
    let alpha : Bool = fits_in 25 s.alpha in
    let red : Bool = fits_in 25 s.red in
    let green : Bool = fits_in 25 s.green in
    let three = and-true (alpha && red && green) (fits_in 25 s.blue) ok in
    let two = and-true (alpha && red) green three.0 in
    let one = and-true alpha red two.0 in
    record {
      alpha = ltb-true s.alpha (2 ^ 25) one.0;
      red = ltb-true s.red (2 ^ 25) one.1;
      green = ltb-true s.green (2 ^ 25) two.1;
      blue = ltb-true s.blue (2 ^ 25) three.1;
    }

pub parts : (f : Fields) → allowed f ≡ true → Parts f
unfolding allowed
parts f ok =
    let source : Bool = source_allowed f.source in
    let destination : Bool = destination_allowed f.destination in
    let output : Bool = surface_allowed f.output in
    let three = and-true (source && destination && output) (blending_allowed f.blending) ok in
    let two = and-true (source && destination) output three.0 in
    let one = and-true source destination two.0 in
    record { source = one.0; destination = one.1; output = two.1; blending = three.1 }
