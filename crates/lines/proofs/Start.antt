-- The engine at the start of a replay.
use mathlib.Core.Path.{◌≡◌, refl}
use mathlib.Core.List.{List}
use Prim.Native.Nat.{ℕ}
use lib.ListN.{replicate}
use Rattle.engine_record.specs.declared.Window.{Window}
use Rattle.engine_record.specs.declared.EngineRecord.{EngineRecord}
use Rattle.queue.specs.Calls.{set_up_result, open_result}
use Rattle.claims.specs.Engine.{mk_state, perform_call, state_after}
use Rattle.records.specs.declared.Edition.{Edition}
use Rattle.records.specs.Editions.{reset_rule_of}
use Rattle.lines.specs.Lines.{engine_opened, replay_start}

abbrev window_from : ℕ → Window
window_from start = record { start = start; length = 12288 }

module _ (edition : Edition) where
  abbrev opened : EngineRecord
  opened =
      let none : EngineRecord = (set_up_result 32768 65536 16384 (reset_rule_of edition)).engine in
      let one : EngineRecord = (open_result none (window_from 16384)).engine in
      let two : EngineRecord = (open_result one (window_from 28672)).engine in
      let three : EngineRecord = (open_result two (window_from 40960)).engine in
      (open_result three (window_from 53248)).engine

  pub started_engine : (ring memory : List ℕ) → (engine_opened edition ring memory).engine ≡ opened
  unfolding engine_opened state_after perform_call
  started_engine ring memory = refl

  pub starting_engine : (replay_start edition).engine ≡ opened
  unfolding replay_start
  starting_engine = started_engine (replicate 32768 0) (replicate 65536 0)

  -- opening changes neither ring nor memory
  pub started_state : (ring memory : List ℕ) → mk_state (engine_opened edition ring memory).engine ring memory ≡ engine_opened edition ring memory
  unfolding engine_opened state_after perform_call
  started_state ring memory = refl

  pub starting_state : mk_state (replay_start edition).engine (replicate 32768 0) (replicate 65536 0) ≡ replay_start edition
  unfolding replay_start
  starting_state = started_state (replicate 32768 0) (replicate 65536 0)
