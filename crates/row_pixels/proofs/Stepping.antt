-- Flips and turns take an output row through the source in even steps.
use mathlib.Core.Path.{◌≡◌, sym, ap, ◌∙◌}
use mathlib.Core.Bool.{Bool, true, false, false≢true}
use Prim.Native.Nat.{ℕ, ◌+◌, ◌-◌, ◌*◌, ◌≤◌}
use native.Mathlib.Nat.{add-mul}
use native.Mathlib.Omega.{arith}
use Rattle.pixel.specs.Formats.{bytes_per_pixel}
use Rattle.transform.specs.Transform.{InPicture, rotated_size, unrotated, unflipped, mirrored, source_pixel}
use Rattle.transform.specs.declared.Flip.{Flip}
use Rattle.transform.specs.declared.Rotation.{Rotation}
use Rattle.transform.specs.declared.Rotation.TheVariants.{Rotate0, Rotate90, Rotate180, Rotate270}
use Rattle.transform.specs.declared.Point.{Point}
use Rattle.transform.specs.declared.Transform.{Transform}
use Rattle.transform.proofs.Inside.{source-within}
use Rattle.surface.specs.Surface.{row_start, pixel_start, span}
use Rattle.surface.specs.declared.Surface.{Surface}
use Rattle.surface.proofs.Outside.{pixel_in_span}
use Rattle.register.specs.Size.{size_of}
use Rattle.row_pixels.specs.Row.{source_pixel_of}
use Rattle.row_pixels.specs.Strided.{strided_address, pixel_stride, is_reversed}

-- place i is x on from i₀, or x back
on : (a c b i i₀ x : ℕ) → i ≡ i₀ + x → a + i * b + c ≡ a + i₀ * b + c + x * b
on a c b i i₀ x e = omega (arith, ap (λ (n : ℕ). n * b) e ∙ add-mul i₀ x b)

back_fits : (a c b i i₀ x : ℕ) → i + x ≡ i₀ → x * b ≤ a + i₀ * b + c
back_fits a c b i i₀ x e = omega (arith, sym (add-mul i x b) ∙ ap (λ (n : ℕ). n * b) e)

back : (a c b i i₀ x : ℕ) → i + x ≡ i₀ → a + i * b + c ≡ a + i₀ * b + c - x * b
back a c b i i₀ x e = omega (arith, sym (add-mul i x b) ∙ ap (λ (n : ℕ). n * b) e)

-- the address of output pixel (x, y) under a rotation and a flip
abbrev address : Rotation → Flip → Surface → ℕ → ℕ → ℕ
address r f s x y =
    let p : Point = unflipped f (size_of s) (unrotated r (size_of s) (record { x = x; y = y })) in
    pixel_start s p.x p.y

-- it lies x steps on from that of the row's first pixel, or back
pub record Lies (r : Rotation) (f : Flip) (s : Surface) (x y : ℕ) : Type 0 where
  pub at : address r f s x y ≡ strided_address (address r f s 0 y) (pixel_stride r s) (is_reversed r f) x
  pub above : is_reversed r f ≡ true → x * pixel_stride r s ≤ address r f s 0 y

abbrev flip : Bool → Bool → Flip
flip h v = record { horizontal = h; vertical = v }

lies : (r : Rotation) (h v : Bool) (s : Surface) (x y : ℕ) → InPicture (rotated_size r (size_of s)) (record { x = x; y = y }) → Lies r (flip h v) s x y
lies Rotate0 false v s x y w =
    record { at = omega arith; above = λ e. absurd (false≢true e) }
lies Rotate0 true v s x y w =
    let a : ℕ = row_start s (mirrored v s.height y) in
    let e : s.width - 1 - x + x ≡ s.width - 1 - 0 = omega (arith, w.across) in
    record {
      at = omega (arith, back a 0 (bytes_per_pixel s.format) (s.width - 1 - x) (s.width - 1 - 0) x e);
      above = λ q. omega (arith, back_fits a 0 (bytes_per_pixel s.format) (s.width - 1 - x) (s.width - 1 - 0) x e);
    }
lies Rotate180 true v s x y w =
    let a : ℕ = row_start s (mirrored v s.height (s.height - 1 - y)) in
    let e : s.width - 1 - (s.width - 1 - x) ≡ s.width - 1 - (s.width - 1 - 0) + x = omega (arith, w.across) in
    record {
      at = omega (arith, on a 0 (bytes_per_pixel s.format) (s.width - 1 - (s.width - 1 - x)) (s.width - 1 - (s.width - 1 - 0)) x e);
      above = λ q. absurd (false≢true q);
    }
lies Rotate180 false v s x y w =
    let a : ℕ = row_start s (mirrored v s.height (s.height - 1 - y)) in
    let e : s.width - 1 - x + x ≡ s.width - 1 - 0 = omega (arith, w.across) in
    record {
      at = omega (arith, back a 0 (bytes_per_pixel s.format) (s.width - 1 - x) (s.width - 1 - 0) x e);
      above = λ q. omega (arith, back_fits a 0 (bytes_per_pixel s.format) (s.width - 1 - x) (s.width - 1 - 0) x e);
    }
lies Rotate90 h false s x y w =
    let c : ℕ = mirrored h s.width y * bytes_per_pixel s.format in
    let e : s.height - 1 - x + x ≡ s.height - 1 - 0 = omega (arith, w.across) in
    record {
      at = back s.address c s.stride (s.height - 1 - x) (s.height - 1 - 0) x e;
      above = λ q. back_fits s.address c s.stride (s.height - 1 - x) (s.height - 1 - 0) x e;
    }
lies Rotate90 h true s x y w =
    let c : ℕ = mirrored h s.width y * bytes_per_pixel s.format in
    let e : s.height - 1 - (s.height - 1 - x) ≡ s.height - 1 - (s.height - 1 - 0) + x = omega (arith, w.across) in
    record {
      at = on s.address c s.stride (s.height - 1 - (s.height - 1 - x)) (s.height - 1 - (s.height - 1 - 0)) x e;
      above = λ q. absurd (false≢true q);
    }
lies Rotate270 h false s x y w =
    let c : ℕ = mirrored h s.width (s.width - 1 - y) * bytes_per_pixel s.format in
    record {
      at = on s.address c s.stride x 0 x (omega arith);
      above = λ q. absurd (false≢true q);
    }
lies Rotate270 h true s x y w =
    let c : ℕ = mirrored h s.width (s.width - 1 - y) * bytes_per_pixel s.format in
    let e : s.height - 1 - x + x ≡ s.height - 1 - 0 = omega (arith, w.across) in
    record {
      at = back s.address c s.stride (s.height - 1 - x) (s.height - 1 - 0) x e;
      above = λ q. back_fits s.address c s.stride (s.height - 1 - x) (s.height - 1 - 0) x e;
    }

module _ (s : Surface) (t : Transform) (x y : ℕ) (w : InPicture (rotated_size t.rotation (size_of s)) (record { x = x; y = y })) where
  pub origin_stepped : pixel_start s (source_pixel_of s t x y).x (source_pixel_of s t x y).y
      ≡ strided_address (pixel_start s (source_pixel_of s t 0 y).x (source_pixel_of s t 0 y).y) (pixel_stride t.rotation s) (is_reversed t.rotation t.flip) x
  unfolding source_pixel_of source_pixel
  origin_stepped = (lies t.rotation t.flip.horizontal t.flip.vertical s x y w).at

  pub origin-above : is_reversed t.rotation t.flip ≡ true → x * pixel_stride t.rotation s ≤ pixel_start s (source_pixel_of s t 0 y).x (source_pixel_of s t 0 y).y
  unfolding source_pixel_of source_pixel
  origin-above = (lies t.rotation t.flip.horizontal t.flip.vertical s x y w).above

  is-source : InPicture (size_of s) (source_pixel_of s t x y)
  unfolding source_pixel_of
  is-source = source-within t (size_of s) (record { x = x; y = y }) w

  -- the pixel lies in the surface
  pub stepped_in : (n : ℕ) → (span s).end ≤ n →
      strided_address (pixel_start s (source_pixel_of s t 0 y).x (source_pixel_of s t 0 y).y) (pixel_stride t.rotation s) (is_reversed t.rotation t.flip) x + bytes_per_pixel s.format ≤ n
  stepped_in n l = rw (← origin_stepped) (omega (arith, (pixel_in_span s (source_pixel_of s t x y).x (source_pixel_of s t x y).y is-source.across is-source.down).1))
