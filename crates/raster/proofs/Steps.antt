-- A step that draws the rows of a task: what holds of it before a call holds after it.
use Rattle.std.proofs.Common.{◌≡◌, List, ℕ, zero, suc, ◌<◌, length}
use Rattle.std.specs.Fn.{Mut, TakesWithState, CalledWithState}
use denote.Ref.{MutBor}
use Rattle.register.specs.declared.task.Task.{Task}
use Rattle.raster.specs.Row.{draw_row}
use Rattle.raster.specs.Rows.{DrawsEach, DrawsRows}

module _ {F : Type 0} (g : Mut F (MutBor (List ℕ) × (ℕ × Unit {0})) (Unit {0} × (MutBor (List ℕ) × Unit {0}))) (t : Task) (n : ℕ) (Holds : F → Type 0)
    (takes : (f : F) → Holds f → (memory : List ℕ) (y : ℕ) → length memory ≡ n → y < t.output.height → TakesWithState g f memory y)
    (draws : (f : F) → Holds f → (memory : List ℕ) (y : ℕ) → length memory ≡ n → y < t.output.height →
    (f' : F) (memory' : List ℕ) → CalledWithState g f memory y tt f' memory' → (memory' ≡ draw_row t y memory) × Holds f') where
  draws_each : (calls : ℕ) (f : F) → Holds f → DrawsEach g t n calls f
  draws_each zero f h = tt
  draws_each (suc calls) f h = λ memory y s l. (takes f h memory y s l, λ f' memory' c. let d = draws f h memory y s l f' memory' c in (d.0, draws_each calls f' d.1))

  pub draws_rows : (f : F) → Holds f → DrawsRows g t n f
  draws_rows f h = record { at = λ calls. draws_each calls f h }
