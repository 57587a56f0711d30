-- Internal: what a byte of a row of ARGB8888 pixels becomes by an alpha mode (01, "Pixels"). Such a pixel lies in memory as B, G, R, A.
use Rattle.std.specs.Prelude.{ℕ, ◌%◌, cond, List, eqb, get_or}
use Rattle.pixel.specs.Alpha.{effective_alpha}
use Rattle.pixel.specs.declared.blend.AlphaMode.{AlphaMode}

-- byte j of a row under an alpha mode
unfoldable pub mode_at : AlphaMode → ℕ → List ℕ → ℕ → ℕ
mode_at mode global row j = cond (eqb (j % 4) 3) (effective_alpha mode global (get_or row j 0)) (get_or row j 0)
