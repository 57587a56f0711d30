-- Where the bytes lie that a sound task reads and writes (demand 2). That no byte of a row is both, but where destination and output are one, is part
-- of `Sound`.
use Prim.Native.Nat.{ℕ}
use native.Mathlib.Omega.{arith}
use mathlib.Core.Path.{◌≡◌}
use mathlib.Core.Bool.{true}
use mathlib.Core.Logic.{◌⊎◌, inl, inr}
use Rattle.range.specs.Range.{Contains}
use Rattle.range.specs.declared.Range.{Range}
use Rattle.surface.specs.Surface.{span, InRow}
use Rattle.surface.proofs.Outside.{byte_in-span}
use Rattle.register.specs.declared.task.Task.{Task}
use Rattle.task_check.specs.declared.task.Bounds.{Bounds}
use Rattle.task_check.specs.Rules.{is_buffer_source, common_of}
use Rattle.task_check.proofs.Sound.{Within, InReach, Sound}

-- each byte of a run that lies within another is one of the other's
pub within-holds : (r q : Range) → Within r q → (i : ℕ) → Contains r i → Contains q i
within-holds r q w i h = (omega arith, omega arith)

-- of what is in reach, a byte of the window or of common
pub reach-holds : (bounds : Bounds) (r : Range) → InReach bounds r → (i : ℕ) → Contains r i → Contains bounds.window i ⊎ Contains (common_of bounds) i
reach-holds bounds r (inl w) i h = inl (within-holds r bounds.window w i h)
reach-holds bounds r (inr w) i h = inr (within-holds r (common_of bounds) w i h)

module _ (bounds : Bounds) (t : Task) (s : Sound bounds t) where
  -- a byte that the task writes is one of the window's
  pub written-is_writable-span : (i y j : ℕ) → InRow t.output i y j → Contains bounds.window i
  written-is_writable-span i y j r = within-holds (span t.output) bounds.window s.within i (byte_in-span t.output i y j r)

  -- a byte that it reads of the source is one of the window's or of common's
  pub source-is_readable : is_buffer_source t.source ≡ true → (i y j : ℕ) → InRow t.source.surface i y j → Contains bounds.window i ⊎ Contains (common_of bounds) i
  source-is_readable on i y j r =
      reach-holds bounds (span t.source.surface) (s.source on).reach i (byte_in-span t.source.surface i y j r)

  -- a byte that it reads of the destination lies so too
  pub destination-is_readable : t.blending.on ≡ true → (i y j : ℕ) → InRow t.destination.surface i y j → Contains bounds.window i ⊎ Contains (common_of bounds) i
  destination-is_readable on i y j r =
      reach-holds bounds (span t.destination.surface) (s.destination on).reach i (byte_in-span t.destination.surface i y j r)
