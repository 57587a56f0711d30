-- The blending rules by name (01, "Pixels": 000 and 001 number them differently; only the names count).
use Rattle.pixel.specs.declared.blend.BlendFactors.{BlendFactors}
use Rattle.pixel.specs.declared.blend.BlendMode.{BlendMode}
use Rattle.pixel.specs.declared.blend.BlendMode.TheVariants.{None, Clear, Src, Dst, SrcOver, DstOver, SrcIn, DstIn, SrcOut, DstOut, SrcAtop, DstAtop, Xor, Add}
use Rattle.pixel.specs.Blending.{factor_of}
use Rattle.std.specs.Prelude.{ℕ}

-- the rule of a source factor and a destination factor, by their codes
abbrev pub factor_pair : ℕ → ℕ → BlendFactors
factor_pair s d = record { source = factor_of s; destination = factor_of d }

abbrev pub blend_mode_factors : BlendMode → BlendFactors
blend_mode_factors None = factor_pair 2 3
blend_mode_factors Clear = factor_pair 0 0
blend_mode_factors Src = factor_pair 1 0
blend_mode_factors Dst = factor_pair 0 1
blend_mode_factors SrcOver = factor_pair 1 3
blend_mode_factors DstOver = factor_pair 5 1
blend_mode_factors SrcIn = factor_pair 4 0
blend_mode_factors DstIn = factor_pair 0 2
blend_mode_factors SrcOut = factor_pair 5 0
blend_mode_factors DstOut = factor_pair 0 3
blend_mode_factors SrcAtop = factor_pair 4 3
blend_mode_factors DstAtop = factor_pair 5 2
blend_mode_factors Xor = factor_pair 5 3
blend_mode_factors Add = factor_pair 1 1
