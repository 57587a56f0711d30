-- Pixels of a buffer stored one by one: one more.
use mathlib.Core.Path.{◌≡◌, ap, ◌∙◌}
use mathlib.Core.List.{List}
use mathlib.Core.Logic.{inl}
use Prim.Native.Nat.{ℕ, ◌+◌, ◌*◌, ◌^◌, ◌≤◌, ◌<◌}
use native.Mathlib.Omega.{arith}
use lib.ListN.{length}
use borrow.Author.Count.{below_more}
use Rattle.pixel.specs.declared.colour.Colour.{Colour}
use Rattle.pixel.specs.declared.format.Format.TheVariants.{Argb8888}
use Rattle.pixel.proofs.Stored.{stored_same}
use Rattle.surface.specs.Drawn.{store_pixel}
use Rattle.surface.proofs.Loaded.{loaded_else, loaded_stored}
use Rattle.row_pixels.specs.Row.{word_colour, colour_in, HoldsColours}

pub holds-step : (p : ℕ → Colour) (buffer buffer' : List ℕ) (x word : ℕ) → x * 4 + 4 ≤ length buffer → word < 2 ^ 32 → HoldsColours buffer x p →
    buffer' ≡ store_pixel Argb8888 buffer (x * 4) (word_colour word) → word_colour word ≡ p x → HoldsColours buffer' (x + 1) p
holds-step p buffer buffer' x word l small h m e =
    below_more (λ (k : ℕ). colour_in buffer' k ≡ p k) x
    (λ k z. ap (λ (b : List ℕ). colour_in b k) m ∙ (loaded_else Argb8888 buffer (x * 4) (word_colour word) Argb8888 (k * 4) (inl (omega arith)) ∙ h k z))
    (ap (λ (b : List ℕ). colour_in b x) m
    ∙ (loaded_stored Argb8888 buffer (x * 4) (word_colour word) l ∙ (ap word_colour (stored_same Argb8888 word small) ∙ e)))
