-- Blending of one pixel (01, "Pixels"; 000, Porter/Duff Alpha Blending).
use Rattle.std.specs.Prelude.{ℕ, ◌+◌, ◌-◌, ◌*◌, min, Bool, cond, eqb, leb}
use Rattle.pixel.specs.declared.colour.Colour.{Colour}
use Rattle.pixel.specs.declared.blend.Factor.{Factor}
use Rattle.pixel.specs.declared.blend.Factor.TheVariants.{Zero, One, SourceAlpha, InverseSourceAlpha, DestinationAlpha, InverseDestinationAlpha}
use Rattle.pixel.specs.declared.blend.BlendFactors.{BlendFactors}
use Rattle.division.specs.Division.{div255}

-- a number is the code of a factor
abbrev pub is_factor : ℕ → Bool
is_factor code = leb code 5

-- the factor of a code, 0 to 5; a number that is no code, which fault 24 keeps out of every register, counts as 5
abbrev pub factor_of : ℕ → Factor
factor_of code =
    cond (eqb code 0) Zero
    (cond (eqb code 1) One
    (cond (eqb code 2) SourceAlpha
    (cond (eqb code 3) InverseSourceAlpha
    (cond (eqb code 4) DestinationAlpha
    InverseDestinationAlpha))))

-- what a factor is for a source alpha sa and a destination alpha da
abbrev pub factor_value : Factor → ℕ → ℕ → ℕ
factor_value Zero sa da = 0
factor_value One sa da = 255
factor_value SourceAlpha sa da = sa
factor_value InverseSourceAlpha sa da = 255 - sa
factor_value DestinationAlpha sa da = da
factor_value InverseDestinationAlpha sa da = 255 - da

-- one channel: the sum is held at 255 only after it was divided
unfoldable pub blended_channel : ℕ → ℕ → ℕ → ℕ → ℕ
blended_channel s fs d fd = min 255 (div255 (s * fs + d * fd))

-- all four channels, alpha among them, by the same two factors; both colours have their alphas after the alpha modes
unfoldable pub blended : BlendFactors → Colour → Colour → Colour
blended rule s d =
    let fs : ℕ = factor_value rule.source s.alpha d.alpha in
    let fd : ℕ = factor_value rule.destination s.alpha d.alpha in
    record {
      alpha = blended_channel s.alpha fs d.alpha fd;
      red = blended_channel s.red fs d.red fd;
      green = blended_channel s.green fs d.green fd;
      blue = blended_channel s.blue fs d.blue fd;
    }
