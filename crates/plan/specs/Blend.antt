-- Internal: what a byte of a row of ARGB8888 pixels becomes (01, "Pixels"). Such a pixel lies in memory as B, G, R, A.
use Rattle.std.specs.Prelude.{ℕ, ◌+◌, ◌*◌, ◌/◌, ◌%◌, List, get_or}
use Rattle.pixel.specs.Blending.{factor_value, blended_channel}
use Rattle.pixel.specs.declared.blend.BlendFactors.{BlendFactors}

-- the alpha of the pixel to which byte j belongs
abbrev pub alpha_at : List ℕ → ℕ → ℕ
alpha_at row j = get_or row (j / 4 * 4 + 3) 0

-- byte j of the row s blended with the row d
unfoldable pub blend_at : BlendFactors → List ℕ → List ℕ → ℕ → ℕ
blend_at rule s d j =
    blended_channel
    (get_or s j 0) (factor_value rule.source (alpha_at s j) (alpha_at d j))
    (get_or d j 0) (factor_value rule.destination (alpha_at s j) (alpha_at d j))

-- two channels, which are the bytes of a word, by the same factors
unfoldable pub duo : ℕ → ℕ → ℕ → ℕ → ℕ
duo s fs d fd = blended_channel (s % 256) fs (d % 256) fd + 256 * blended_channel (s / 256) fs (d / 256) fd

-- the alpha of the pixel to which lane k belongs
abbrev pub top_at : List ℕ → ℕ → ℕ
top_at lanes k = get_or lanes (k / 2 * 2 + 1) 0 / 256

-- lane k of the lanes s blended with the lanes d
unfoldable pub lane_at : BlendFactors → List ℕ → List ℕ → ℕ → ℕ
lane_at rule s d k =
    duo
    (get_or s k 0) (factor_value rule.source (top_at s k) (top_at d k))
    (get_or d k 0) (factor_value rule.destination (top_at s k) (top_at d k))
