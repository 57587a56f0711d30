-- Internal: what the check of a record finds. A call asks for it once, and goes by the numbers that were found.
use Rattle.std.specs.Prelude.{cond, Option, Some, None}
use Rattle.engine_record.specs.declared.Counted.{Counted}
use Rattle.engine_record.specs.declared.EngineRecord.{EngineRecord}
use Rattle.engine_record.specs.Queue.{ready_slots, ready_bytes}
use Rattle.engine_record.specs.Rules.{valid}

-- of a valid record the slots that are ready, and the ring bytes of their batches; of one that breaks a rule nothing is counted
unfoldable pub checked_of : EngineRecord → Option Counted
checked_of engine = cond (valid engine) (Some (record { ready = ready_slots engine; bytes = ready_bytes engine })) None
