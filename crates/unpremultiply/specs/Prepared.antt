-- Internal: used only in contracts of helper functions. What a byte of a row of ARGB8888 pixels becomes where the row is divided by its
-- alphas (02, request 12). Such a pixel lies in memory as B, G, R, A.
use Rattle.std.specs.Prelude.{ℕ, ◌+◌, ◌*◌, ◌/◌, ◌%◌, Bool, cond, List, eqb, get_or}
use Rattle.unpremultiply.specs.Unpremultiply.{unpremultiplied_channel}

-- byte j of a divided row: an alpha stays, a colour is divided by the alpha of its pixel
unfoldable pub divided_at : List ℕ → ℕ → ℕ
divided_at row j = cond (eqb (j % 4) 3) (get_or row j 0) (unpremultiplied_channel (get_or row (j / 4 * 4 + 3) 0) (get_or row j 0))

-- byte j of a row that is divided if it is premultiplied
unfoldable pub prepared_at : Bool → List ℕ → ℕ → ℕ
prepared_at premultiplied row j = cond premultiplied (divided_at row j) (get_or row j 0)
