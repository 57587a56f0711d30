-- What a drawing does to each byte (demand 2): in a row the byte of its pixel, everywhere else what was there. And where the
-- rows lie: all of them in the span.
use mathlib.Core.Path.{◌≡◌, ap, ◌∙◌}
use mathlib.Core.List.{List}
use Prim.Native.Nat.{ℕ, ◌+◌, ◌*◌, ◌/◌, ◌%◌, ◌≤◌, ◌<◌}
use native.Mathlib.Omega.{arith}
use lib.ListN.{length, get_or}
use Rattle.word.specs.Word.{byte_of}
use Rattle.range.specs.Range.{Contains}
use Rattle.pixel.specs.Formats.{bytes_per_pixel, layout_of}
use Rattle.pixel.specs.Colours.{packed}
use Rattle.pixel.specs.declared.colour.Colour.{Colour}
use Rattle.surface.specs.declared.Surface.{Surface}
use Rattle.surface.specs.Surface.{row_length, row_start, pixel_start, span, InRow}
use Rattle.surface.specs.Rows.{row_byte}
use Rattle.surface.specs.Drawn.{draw_rectangle, draw_surface}
use Rattle.surface.proofs.Sizes.{bytes-some}
use Rattle.surface.proofs.Mapi.{length-mapi, get_or-mapi, mapi-stays, mapi_ext, mapi_agree}
use Rattle.surface.proofs.Rows.{next, row_within, rows_hit, rows_else, rows_ext}
use Rattle.surface.proofs.Pixels.{row_byte_ext}

-- ---- where the rows lie

module _ (s : Surface) where
  -- row y ends in the span
  pub row_in-span : (y : ℕ) → y < s.height → row_start s y + row_length s ≤ (span s).end
  unfolding span
  row_in-span y u = row_within s.address s.stride (row_length s) s.height y _ u (omega arith)

  -- so each byte of a row is one of the span's
  pub byte_in-span : (i y j : ℕ) → InRow s i y j → Contains (span s) i
  unfolding span
  byte_in-span i y j r = (omega (arith, r.address), omega (arith, r.address, r.column, row_in-span y r.row))

  -- and so is each pixel of the rectangle, whole
  pub pixel_in_row : (x : ℕ) → x < s.width → x * bytes_per_pixel s.format + bytes_per_pixel s.format ≤ row_length s
  pixel_in_row x l = next x s.width (bytes_per_pixel s.format) l

  pub pixel_in_span : (x y : ℕ) → x < s.width → y < s.height →
      ((span s).start ≤ pixel_start s x y) × (pixel_start s x y + bytes_per_pixel s.format ≤ (span s).end)
  unfolding span
  pixel_in_span x y l u = (omega arith, omega (arith, pixel_in_row x l, row_in-span y u))

-- ---- what a drawing does to each byte

module _ (s : Surface) (p : ℕ → ℕ → Colour) (memory : List ℕ) where
  pub length_drawn_on : length (draw_surface s p memory) ≡ length memory
  unfolding draw_surface draw_rectangle
  length_drawn_on = length-mapi _ memory

  -- a byte that lies in no row is as it was
  pub outside-rows : 0 < s.stride → (i : ℕ) → ((y j : ℕ) → InRow s i y j → ⊥) → get_or (draw_surface s p memory) i 0 ≡ get_or memory i 0
  unfolding draw_surface draw_rectangle
  outside-rows q i out =
      mapi-stays _ memory i
      (λ old. rows_else s.address s.stride (row_length s) s.height _ i old q (λ y j u v l e. out y j (record { row = u; column = v; address = omega arith })))

  -- and so is a byte outside the span
  pub outside-span : 0 < s.stride → (i : ℕ) → ¬ (Contains (span s) i) → get_or (draw_surface s p memory) i 0 ≡ get_or memory i 0
  outside-span q i out = outside-rows q i (λ y j r. out (byte_in-span s i y j r))

  -- byte j of row y is a byte of the packed colour of the pixel that it belongs to
  pub inside-row : row_length s ≤ s.stride → (i y j : ℕ) → i < length memory → InRow s i y j →
      get_or (draw_surface s p memory) i 0 ≡ byte_of (packed (layout_of s.format) (p (j / bytes_per_pixel s.format) y)) (j % bytes_per_pixel s.format)
  unfolding draw_surface draw_rectangle row_byte
  inside-row w i y j l r =
      get_or-mapi _ memory i l
      ∙ rows_hit s.address s.stride (row_length s) s.height _ (get_or memory i 0) i y j (omega (arith, r.address)) (omega (arith, r.column)) r.row r.column

-- a drawing goes by the colours of its own pixels alone
pub drawn_on_ext : (s : Surface) (p q : ℕ → ℕ → Colour) (memory : List ℕ) → 0 < s.stride →
    ((x y : ℕ) → x < s.width → y < s.height → p x y ≡ q x y) → draw_surface s p memory ≡ draw_surface s q memory
unfolding draw_surface draw_rectangle
drawn_on_ext s p q memory z h =
    mapi_ext _ _ memory
    (λ i l. rows_ext s.address s.stride (row_length s) s.height _ _ z
    (λ y j u v. row_byte_ext (bytes_per_pixel s.format) s.width _ _ j (bytes-some s.format) v (λ x t. ap (packed (layout_of s.format)) (h x y t u)))
    i (get_or memory i 0))

-- memories that agree at a byte agree there after the same drawing
pub drawn_on_agree : (s : Surface) (p q : ℕ → ℕ → Colour) (memory memory' : List ℕ) → 0 < s.stride →
    ((x y : ℕ) → x < s.width → y < s.height → p x y ≡ q x y) →
    (i : ℕ) → length memory ≡ length memory' → i < length memory → get_or memory i 0 ≡ get_or memory' i 0 →
    get_or (draw_surface s p memory) i 0 ≡ get_or (draw_surface s q memory') i 0
unfolding draw_surface draw_rectangle
drawn_on_agree s p q memory memory' z h i e l g = ap (λ (m : List ℕ). get_or m i 0) (drawn_on_ext s p q memory z h) ∙ mapi_agree _ memory memory' i e l g
