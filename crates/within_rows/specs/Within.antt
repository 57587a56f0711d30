-- Internal: used only in contracts of helper functions. What a byte of a row becomes where the row that it is blended with lies in the same memory.
use Rattle.std.specs.Prelude.{List, ℕ, ◌-◌, drop}
use Rattle.pixel.specs.declared.blend.BlendFactors.{BlendFactors}
use Rattle.plan.specs.Blend.{blend_at}

-- byte i of the row from `to` on, blended with the row from `from` on, both as they were
unfoldable pub blend_within : BlendFactors → List ℕ → ℕ → ℕ → ℕ → ℕ
blend_within rule memory to from i = blend_at rule (drop from memory) (drop to memory) (i - to)
