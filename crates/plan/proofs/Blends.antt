-- Rows blended byte by byte.
use mathlib.Core.Path.{◌≡◌}
use mathlib.Core.List.{List}
use Prim.Native.Nat.{ℕ, ◌+◌, ◌*◌, ◌/◌, ◌≤◌, ◌<◌}
use native.Mathlib.Omega.{arith}
use lib.ListN.{length, get_or, set}
use Rattle.pixel.specs.declared.blend.BlendFactors.{BlendFactors}
use Rattle.lanes.specs.Lanes.{Done}
use Rattle.lanes.proofs.Passes.{Ahead, one-done, more-done}
use Rattle.plan.specs.Blend.{blend_at}

-- a row of bytes
abbrev pub Bytes : List ℕ → Type 0
Bytes s = (j : ℕ) → get_or s j 0 < 256

pub blend_ahead : (rule : BlendFactors) (s : List ℕ) → Ahead (blend_at rule s)
unfolding blend_at
blend_ahead rule s d e j same =
    let a = same j (omega arith) in
    let b = same (j / 4 * 4 + 3) (omega arith) in
    cc

-- one byte more, and a part more
pub byte_more : (rule : BlendFactors) (s d₀ d : List ℕ) (a j v : ℕ) → a ≤ j → j < length d → v ≡ blend_at rule s d j →
    Done (blend_at rule s d₀) d₀ d a j → Done (blend_at rule s d₀) d₀ (set d j v) a (j + 1)
byte_more rule s d₀ d a j v h l e was =
    more-done (blend_at rule s) (blend_ahead rule s) d₀ d (set d j v) a j (j + 1) h (omega arith) was (one-done (blend_at rule s d) d j v l e)

pub part_more : (rule : BlendFactors) (s d₀ d d' : List ℕ) (a o n : ℕ) → a ≤ o → o ≤ n → Done (blend_at rule s d₀) d₀ d a o → Done (blend_at rule s d) d d' o n → Done (blend_at rule s d₀) d₀ d' a n
part_more rule s d₀ d d' a o n h k was did = more-done (blend_at rule s) (blend_ahead rule s) d₀ d d' a o n h k was did

pub by_rule : (q r : BlendFactors) (s d e : List ℕ) (a n : ℕ) → q ≡ r → Done (blend_at r s d) d e a n → Done (blend_at q s d) d e a n
by_rule q r s d e a n h did = rw h did
