-- Internal: what is asked of the rows that are mixed, and which of them go by two factors all along. A row buffer is a row of ARGB8888 pixels.
use Rattle.std.specs.Prelude.{◌≡◌, Bool, false, not, ◌&&◌, List, ℕ, ◌*◌, ◌≤◌, ◌<◌, eqb, length}
use Rattle.pixel.specs.declared.blend.AlphaMode.{AlphaMode}
use Rattle.pixel.specs.declared.blend.AlphaMode.TheVariants.{Pixel, Global, Mixed}
use Rattle.pixel.specs.declared.format.Format.TheVariants.{Argb8888}
use Rattle.register.specs.declared.task.Alpha.{Alpha}
use Rattle.register.specs.declared.task.Blending.{Blending}
use Rattle.row_pixels.specs.Row.{RowIsWide}
use Rattle.plan.specs.Blend.{alpha_at}
use Rattle.plan.specs.declared.Plan.{Plan}

-- what is asked where a row is blended in place
pub record Mixes (d s : List ℕ) (width : ℕ) (blending : Blending) (p : Plan) : Type 0 where
  pub wide : RowIsWide d width Argb8888
  pub room : width * 4 ≤ length s
  pub rule : p.rule ≡ blending.rule

-- a row of n bytes to which an alpha mode was applied: under Global all its alphas are the one given
abbrev pub HasItsAlphas : Alpha → List ℕ → ℕ → Type 0
HasItsAlphas alpha s n = alpha.mode ≡ Global → (j : ℕ) → j < n → alpha_at s j ≡ alpha.global

-- whether a source under this alpha mode has one alpha, and the plan's rule looks at no other and has no rows of its own
abbrev pub has_constant_alpha : AlphaMode → Plan → Bool
has_constant_alpha Pixel p = false
has_constant_alpha Global p = ((eqb p.source.destination 0 && eqb p.destination.destination 0) && not p.over) && not p.constant
has_constant_alpha Mixed p = false
