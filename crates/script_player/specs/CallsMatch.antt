-- Internal: what a call of a script does, and what all of them do, in the engine's definitions (crate claims, specs/Engine): the contracts of this
-- crate's inner functions.
use Rattle.std.specs.Prelude.{◌≡◌, List, ◌++◌, ℕ, length, drop}
use Rattle.model.specs.Calls.{Call}
use Rattle.claims.specs.Engine.{State, perform_call, answers_of, state_after}
use Rattle.script_player.specs.Answers.{answer_words, answer_bytes}

-- one call: its answer's words, and record, ring and memory after it
pub record CallMatches (call : Call) (s after : State) (words : List ℕ) : Type 0 where
  pub answer : words ≡ answer_words call (perform_call call s).answer
  pub state : after ≡ (perform_call call s).after

-- all of them, from any state: the answers are at the start of the buffer
pub record CallsMatch (played : List Call) (s : State) (buffer : List ℕ) (count : ℕ) (ringNow memoryNow bufferNow : List ℕ) : Type 0 where
  pub returned : count ≡ length (answer_bytes played (answers_of played s))
  pub bytes : bufferNow ≡ answer_bytes played (answers_of played s) ++ drop count buffer
  pub memory_end : memoryNow ≡ (state_after played s).memory
  pub ring_end : ringNow ≡ (state_after played s).ring
