-- A row of pixels stored one after the other.
use mathlib.Core.Path.{◌≡◌, refl, ◌∙◌, subst}
use mathlib.Core.List.{List}
use Prim.Native.Nat.{ℕ, ◌+◌, ◌-◌, ◌*◌, ◌/◌, ◌%◌, ◌≤◌, ◌<◌}
use native.Mathlib.Omega.{arith}
use lib.ListN.{length, get_or}
use Rattle.word.specs.Word.{byte_of}
use Rattle.pixel.specs.Colours.{packed}
use Rattle.pixel.specs.Formats.{layout_of}
use Rattle.pixel.specs.declared.colour.Colour.{Colour}
use Rattle.pixel.specs.declared.format.Format.{Format}
use Rattle.pixel.specs.declared.format.Format.TheVariants.{Argb8888}
use Rattle.surface.specs.Rows.{row_byte}
use Rattle.surface.proofs.Mapi.{is-mapi}
use Rattle.row_pixels.specs.Row.{row_stored}
use Rattle.lanes.specs.Lanes.{Done}
use Rattle.lanes.proofs.Passes.{more-done}
use Rattle.row_pixels.specs.Line.{pixel_byte}

-- a row that was stored to its end
pub row_done : (f : Format) (p : ℕ → Colour) (d e : List ℕ) (n : ℕ) → length e ≡ length d → length d ≡ n → Done (pixel_byte f p) d e 0 n → e ≡ row_stored f p d
unfolding row_stored
row_done f p d e n same long did = is-mapi _ d e same (λ j l. did.done j (omega arith) (omega arith))

-- one pixel of ARGB8888 more
module _ (p : ℕ → Colour) (d₀ d e : List ℕ) (x : ℕ)
    (is : (k : ℕ) → k < 4 → get_or e (x * 4 + k) 0 ≡ byte_of (packed (layout_of Argb8888) (p x)) k)
    (under : (j : ℕ) → j < x * 4 → get_or e j 0 ≡ get_or d j 0) (past : (j : ℕ) → x * 4 + 4 ≤ j → get_or e j 0 ≡ get_or d j 0) where
  at : (k : ℕ) → k < 4 → get_or e (x * 4 + k) 0 ≡ pixel_byte Argb8888 p (x * 4 + k)
  unfolding row_byte
  at k l = let i : (x * 4 + k) / 4 ≡ x = omega arith in let m : (x * 4 + k) % 4 ≡ k = omega arith in is k l ∙ rw (i, m)

  pub four-more : Done (pixel_byte Argb8888 p) d₀ d 0 (x * 4) → Done (pixel_byte Argb8888 p) d₀ e 0 ((x + 1) * 4)
  four-more was =
      more-done (λ l. pixel_byte Argb8888 p) (λ a b j same. refl) d₀ d e 0 (x * 4) ((x + 1) * 4) (omega arith) (omega arith) was
      (record {
        done = λ j h l. subst (λ (n : ℕ). get_or e n 0 ≡ pixel_byte Argb8888 p n) (omega arith) (at (j - x * 4) (omega arith));
        under = under;
        past = λ j l. past j (omega arith);
      })
