-- What playing a script answers and leaves, for every script, ring, memory and answer buffer. The answers, memory and the ring are the reference
-- model's (crate model) at the real definitions of reading, judging and drawing (crate claims). No engine record is asked.
use Rattle.std.specs.Prelude.{◌≡◌, List, [], ◌++◌, cond, ℕ, ◌-◌, ◌/◌, length, drop, ltb, eqb}
use Rattle.word.specs.Word.{words_bytes}
use Rattle.queue.specs.Refusals.{first_refusal, set_up_table}
use Rattle.engine.specs.Answers.{short_answer}
use Rattle.model.specs.Calls.{Setup, Call}
use Rattle.model.specs.State.{initial_model}
use Rattle.model.specs.Model.{answers, model_after_all}
use Rattle.claims.specs.ModelProperties.{batch_semantics}
use Rattle.claims.specs.Ring.{ring_after_calls}
use Rattle.script.specs.Script.{decode}
use Rattle.script_player.specs.Answers.{answer_bytes}

-- what set up is refused with, 0 if it is accepted
abbrev pub set_up_refusal_of : Setup → ℕ
set_up_refusal_of setup = first_refusal (set_up_table (record { ring = setup.ring; memory = setup.memory; common = setup.common; reset = setup.reset }))

-- The calls that are played, in a buffer of `room` bytes. An answer has 24 bytes; of n + 1 answers that fit, the first is set up's own, and
-- n are left for calls. A call whose answer would not fit is not played. If set up is refused, no call is.
unfoldable pub played_calls : Setup → (room : ℕ) → (script : List ℕ) → List Call
played_calls setup room script = cond (eqb (set_up_refusal_of setup) 0) (decode (room / 24 - 1) script) []

module _ (setup : Setup) (ring memory script buffer : List ℕ) where
  abbrev pub played : List Call
  played = played_calls setup (length buffer) script

  -- the bytes that are written: set up's answer, and the model's answers; with no room for the first, none
  unfoldable pub answer_output : List ℕ
  answer_output =
      cond (ltb (length buffer) 24) []
      (words_bytes (short_answer (set_up_refusal_of setup) 0) ++ answer_bytes played (answers (batch_semantics setup) setup (length ring) played (initial_model memory)))

  -- memory after it is the model's
  unfoldable pub memory_after : List ℕ
  memory_after = (model_after_all (batch_semantics setup) setup (length ring) played memory).memory

  -- the ring after it: batches are copied in by submit and by pieces alone, one after the other from byte 0 on; the room of a cancelled one is used again
  unfoldable pub ring_after : List ℕ
  ring_after = ring_after_calls setup (length ring) 0 played (initial_model memory) ring

  -- what play returns, and ring, memory and buffer after it; bytes of the buffer past those that are written stay
  pub record ScriptResult (count : ℕ) (ringNow memoryNow bufferNow : List ℕ) : Type 0 where
    pub returned : count ≡ length answer_output
    pub bytes : bufferNow ≡ answer_output ++ drop (length answer_output) buffer
    pub memory_end : memoryNow ≡ memory_after
    pub ring_end : ringNow ≡ ring_after
