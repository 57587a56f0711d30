-- Internal: a record by itself (specs/Answered): submit refuses it, or its batch is run in its own client's window.
use Rattle.std.specs.Prelude.{cond, eqb, Option, Some, None}
use Rattle.claims.specs.BatchSemantics.{bounds_of}
use Rattle.records.specs.Records.{Entry}
use Rattle.lines.specs.Answered.{record_refusal, replay_window}
use Rattle.task_check.specs.declared.task.Bounds.{Bounds}

abbrev pub submitted_as : Entry → Option Bounds
submitted_as entry = cond (eqb (record_refusal entry) 0) (Some (bounds_of (replay_window entry.client) 16384)) None
