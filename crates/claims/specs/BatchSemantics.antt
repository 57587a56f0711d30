-- How a batch is judged and drawn, by demand 2's definitions (01, "The book of demand 3": run "judges and draws it in memory with its
-- desk's window, by the sections on groups, faults and pixels").
use Rattle.std.specs.Prelude.{ℕ}
use Rattle.word.specs.Word.{words}
use Rattle.range.specs.Range.{range_of}
use Rattle.register.specs.declared.bank.Bank.{Bank}
use Rattle.task_check.specs.declared.task.Bounds.{Bounds}
use Rattle.batch.specs.declared.verdict.Verdict.{Verdict}
use Rattle.batch.specs.Batch.{decode_batch, verdict_of, status_word_of, fault_number_of, fault_offset_of}
use Rattle.raster.specs.Batch.{draw_batch}
use Rattle.model.specs.Windows.{Window}
use Rattle.model.specs.Calls.{CompletionStatus as Numbers}
use Rattle.model.specs.BatchSemantics.{BatchSemantics}

-- what a client may touch: its window, and the first `common` bytes of memory
abbrev pub bounds_of : Window → ℕ → Bounds
bounds_of w common = record { window = range_of w.start w.length; common_length = common }

-- status, fault and offset of a verdict
abbrev pub completion_status_of : Verdict → Numbers
completion_status_of v = record { status = status_word_of v; fault = fault_number_of v; offset = fault_offset_of v }

-- registers are as in `reset` at the start of every batch
abbrev pub semantics_from : Bank → BatchSemantics
semantics_from reset = record {
  verdict = λ w common bytes. completion_status_of (verdict_of (decode_batch (bounds_of w common) reset (words bytes)));
  draw = λ w common bytes memory. draw_batch (bounds_of w common) reset (words bytes) memory;
}
