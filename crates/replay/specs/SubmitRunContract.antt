-- Internal: a record served: what is printed of it, and the engine, the ring and memory after it.
use Rattle.std.specs.Prelude.{◌≡◌, List, ℕ}
use Rattle.claims.specs.Engine.{State}
use Rattle.lines.specs.Prints.{Prints}
use Rattle.replay.specs.declared.serving.SubmitRunResult.{SubmitRunResult}

-- Internal: what the call that serves a record leaves
pub record SubmitRunContract (text : List ℕ) (next : State) (line : List ℕ) (s : SubmitRunResult) (ring' memory' line' : List ℕ) : Type 0 where
  pub engine_is : s.engine ≡ next.engine
  pub ring_is : ring' ≡ next.ring
  pub memory_is : memory' ≡ next.memory
  pub prints : Prints text line s.written line'
