-- Internal: used only in contracts of helper functions. What is asked of a step that draws the rows of a task.
use Rattle.std.specs.Prelude.{◌≡◌, List, ℕ, zero, suc, ◌<◌, length}
use Rattle.std.specs.Fn.{Mut, TakesWithState, CalledWithState}
use denote.Ref.{MutBor}
use Rattle.range.specs.declared.Range.{Range}
use Rattle.register.specs.declared.task.Task.{Task}
use Rattle.raster.specs.Preconditions.{Drawable}
use Rattle.raster.specs.Row.{draw_row}

-- a task that may be drawn in some window of a memory of n bytes
abbrev pub IsDrawable : ℕ → Task → Type 0
IsDrawable n t = (window : Range) × Drawable window n t

-- f is a step for the task t in memories of n bytes: its arguments are the memory and a row's number
module _ {F : Type 0} (g : Mut F (MutBor (List ℕ) × (ℕ × Unit {0})) (Unit {0} × (MutBor (List ℕ) × Unit {0}))) (t : Task) (n : ℕ) where
  -- each of so many calls in turn, from f on, may be made at any row of the task, and draws that row
  abbrev pub DrawsEach : ℕ → F → Type 0
  DrawsEach zero f = Unit {0}
  DrawsEach (suc calls) f =
      (memory : List ℕ) (y : ℕ) → length memory ≡ n → y < t.output.height → TakesWithState g f memory y
      × ((f' : F) (memory' : List ℕ) → CalledWithState g f memory y tt f' memory' → (memory' ≡ draw_row t y memory) × DrawsEach calls f')

  -- and so does each of any number of calls
  pub record DrawsRows (f : F) : Type 0 where
    pub at : (calls : ℕ) → DrawsEach calls f
