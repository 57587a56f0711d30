-- The engine at the start of a replay, a window at a time.
use mathlib.Core.Path.{◌≡◌, refl, sym}
use Prim.Native.Nat.{ℕ, zero, suc, ◌+◌, ◌*◌}
use native.Mathlib.Numerals.{add-one}
use Rattle.engine_record.specs.declared.EngineRecord.{EngineRecord}
use Rattle.queue.specs.Calls.{set_up_result, open_result}
use Rattle.records.specs.declared.Edition.{Edition}
use Rattle.records.specs.Editions.{reset_rule_of}
use Rattle.lines.specs.Lines.{replay_start}
use Rattle.lines.proofs.Start.{starting_engine}

-- set up, and the first of the windows opened
unfoldable pub opened_first : Edition → ℕ → EngineRecord
opened_first edition zero = (set_up_result 32768 65536 16384 (reset_rule_of edition)).engine
opened_first edition (suc n) = (open_result (opened_first edition n) (record { start = 16384 + n * 12288; length = 12288 })).engine

pub none_opened : (edition : Edition) → opened_first edition 0 ≡ (set_up_result 32768 65536 16384 (reset_rule_of edition)).engine
unfolding opened_first
none_opened edition = refl

pub one_more_opened : (edition : Edition) (n : ℕ) → opened_first edition (n + 1) ≡ (open_result (opened_first edition n) (record { start = 16384 + n * 12288; length = 12288 })).engine
unfolding opened_first
one_more_opened edition n = rw add-one refl

pub all_opened : (edition : Edition) → opened_first edition 4 ≡ (replay_start edition).engine
unfolding opened_first
all_opened edition = sym (starting_engine edition)
