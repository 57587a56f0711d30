-- A task that breaks no rule may be drawn: what crate task_check calls sound is what the drawing asks.
use mathlib.Core.Path.{sym}
use mathlib.Core.Logic.{⊎_elim}
use Prim.Native.Nat.{ℕ, ◌≤◌}
use native.Mathlib.Omega.{arith}
use Rattle.surface.specs.Surface.{span}
use Rattle.surface.specs.declared.Surface.{Surface}
use Rattle.register.specs.declared.task.Task.{Task}
use Rattle.task_check.specs.declared.task.Bounds.{Bounds}
use Rattle.task_check.specs.Rules.{common_of}
use Rattle.task_check.proofs.Sound.{Rows, Within, InReach, Sound}
use Rattle.raster.specs.Preconditions.{ValidRectangle, TaskInBounds, Drawable, EndsBelow}

-- the rectangles that a batch with these bounds may read
abbrev pub Reach : Bounds → Surface → Type 0
Reach bounds s = InReach bounds (span s)

pub rectangle : (s : Surface) → Rows s → ValidRectangle s
rectangle s r = record { width_positive = r.sides.width_positive; width_max = r.sides.width_max; height_positive = r.sides.height_positive; height_max = r.sides.height_max; rows_apart = r.roomy }

module _ (bounds : Bounds) (t : Task) (s : Sound bounds t) where
  -- wherever its reach is taken to lie in
  reaching : (R : Surface → Type 0) → ((r : Surface) → Reach bounds r → R r) → TaskInBounds bounds.window R t
  unfolding span
  reaching R on = record {
    output = rectangle t.output s.rows;
    begins = s.within.0;
    ends = s.within.1;
    size = sym s.size;
    upright = s.upright;
    source = λ reads. record { reach = on t.source.surface (s.source reads).reach; separate = (s.source reads).separate };
    destination = λ blends. record {
      reach = on t.destination.surface (s.destination blends).reach;
      size = (s.destination blends).size;
      separate = (s.destination blends).separate;
    };
  }

  pub clear : TaskInBounds bounds.window (Reach bounds) t
  clear = reaching (Reach bounds) (λ r h. h)

  -- in a memory of n bytes that holds window and common
  pub drawable : (n : ℕ) → bounds.window.end ≤ n → bounds.common_length ≤ n → Drawable bounds.window n t
  drawable n w c = record {
    room = w;
    clear = reaching (EndsBelow n)
        (λ r h. ⊎_elim (λ (i : Within (span r) bounds.window). omega arith) (λ (i : Within (span r) (common_of bounds)). omega arith) h);
  }
