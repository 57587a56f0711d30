-- A row of pixels stored one by one: after n of them it is `prefix f p n row`.
use mathlib.Core.Path.{◌≡◌, ◌∙◌}
use mathlib.Core.List.{List}
use Prim.Native.Nat.{ℕ, ◌+◌, ◌*◌}
use native.Mathlib.Omega.{arith}
use Rattle.word.specs.Word.{byte_of}
use Rattle.pixel.specs.Formats.{bytes_per_pixel, layout_of}
use Rattle.pixel.specs.Colours.{packed}
use Rattle.pixel.specs.declared.colour.Colour.{Colour}
use Rattle.pixel.specs.declared.format.Format.{Format}
use Rattle.surface.specs.Memory.{mapi}
use Rattle.surface.specs.Rows.{overwrite_rows}
use Rattle.surface.specs.Drawn.{store_pixel}
use Rattle.surface.proofs.Sizes.{bytes-some}
use Rattle.surface.proofs.Rows.{none_rows}
use Rattle.surface.proofs.Pixels.{all_pixels}
use Rattle.surface.proofs.Loaded.{more_stored}
use Rattle.row_pixels.specs.Row.{row_stored, RowIsWide}

unfoldable pub prefix : Format → (ℕ → Colour) → ℕ → List ℕ → List ℕ
prefix f p n row = mapi (overwrite_rows 0 (bytes_per_pixel f) (bytes_per_pixel f) n (λ x k. byte_of (packed (layout_of f) (p x)) k)) row

module _ (f : Format) (p : ℕ → Colour) (row₀ : List ℕ) where
  pub none-begun : row₀ ≡ prefix f p 0 row₀
  unfolding prefix
  none-begun = none_rows 0 _ _ _ row₀

  pub prefix-step : (row row' : List ℕ) (x at : ℕ) (c : Colour) → at ≡ x * bytes_per_pixel f → c ≡ p x → row ≡ prefix f p x row₀ →
      row' ≡ store_pixel f row at c → row' ≡ prefix f p (x + 1) row₀
  unfolding prefix
  prefix-step row row' x at c e q h m = more_stored f p 0 row₀ row row' x at c (omega arith) q h m

  pub prefix-all : (row : List ℕ) (width : ℕ) → RowIsWide row₀ width f → row ≡ prefix f p width row₀ → row ≡ row_stored f p row₀
  unfolding prefix row_stored
  prefix-all row width e h = h ∙ all_pixels (bytes_per_pixel f) width _ row₀ (bytes-some f) e
