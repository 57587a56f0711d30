-- A loop over the rows of a task, of whatever kind they are.
use mathlib.Core.Path.{◌≡◌, ap, ◌∙◌}
use mathlib.Core.List.{List}
use Prim.Native.Nat.{ℕ, ◌+◌, ◌≤◌, ◌<◌}
use native.Mathlib.Omega.{arith}
use lib.ListN.{length}
use Rattle.range.specs.declared.Range.{Range}
use Rattle.register.specs.declared.task.Task.{Task}
use Rattle.raster.specs.Task.{draw_task}
use Rattle.raster.specs.Preconditions.{Drawable}
use Rattle.raster.specs.Row.{draw_row, RowDrawable}
use Rattle.raster.proofs.RowByRow.{prefix, none-begun, length-begun, prefix-step, prefix-all}

-- the rows before y are drawn
pub record Upto (t : Task) (memory₀ memory : List ℕ) (y : ℕ) : Type 0 where
  pub bound : y ≤ t.output.height
  pub is : memory ≡ prefix t y memory₀

pub upto_none : (t : Task) (memory : List ℕ) → Upto t memory memory 0
upto_none t memory = record { bound = omega arith; is = none-begun t memory }

module _ {t : Task} {memory₀ memory : List ℕ} {y : ℕ} (u : Upto t memory₀ memory y) where
  pub upto_length : length memory ≡ length memory₀
  upto_length = ap length u.is ∙ length-begun t y memory₀

  -- the next row may be drawn
  pub upto_row : {window : Range} → Drawable window (length memory₀) t → y < t.output.height → RowDrawable window memory t y
  upto_row d l = record { drawable = rw upto_length d; row = l }

  -- and was
  pub upto_more : {window : Range} → Drawable window (length memory₀) t → y < t.output.height → (memory' : List ℕ) → memory' ≡ draw_row t y memory → Upto t memory₀ memory' (y + 1)
  upto_more {window} d l memory' h = record {
    bound = omega arith;
    is = prefix-step window _ t d.clear memory₀ memory memory' y l u.is h;
  }

  -- all of them are
  pub upto_all : t.output.height ≤ y → memory ≡ draw_task t memory₀
  upto_all l =
      let e : y ≡ t.output.height = omega (arith, u.bound) in
      u.is ∙ (ap (λ (n : ℕ). prefix t n memory₀) e ∙ prefix-all t memory₀)

-- a row of a task that may be drawn, in a memory as long as before
pub row_drawable : {window : Range} {n : ℕ} {t : Task} (memory : List ℕ) (y : ℕ) → Drawable window n t → length memory ≡ n → y < t.output.height → RowDrawable window memory t y
row_drawable memory y d s l = record { drawable = rw s d; row = l }
