-- Memory after close (02, 11: "Its window is filled with zeros"), for every record and memory. What close answers and the record after it are
-- `close_result` of the queue. A refusal leaves memory as it was; no ring is lent.
use Rattle.std.specs.Prelude.{List, ℕ, length, replicate}
use borrow.Rule.Slice.PartMut.{put_mid}
use Rattle.engine_record.specs.declared.Window.{Window}
use Rattle.engine_record.specs.declared.EngineRecord.{EngineRecord}
use Rattle.engine_record.specs.Clients.{client_at}
use Rattle.queue.specs.Refusals.{first_refusal, close_table}
use Rattle.queue.specs.Calls.{unless_refused}

-- memory with zeros in the window, other bytes as they were. `put_mid start length memory bytes`: memory with those bytes from start on
abbrev pub zeroed : Window → (memory : List ℕ) → List ℕ
zeroed w memory = put_mid w.start w.length memory (replicate w.length 0)

-- what close is refused with, 0 if it is accepted
abbrev pub close_number : EngineRecord → (memory : List ℕ) → (client : ℕ) → ℕ
close_number engine memory client = first_refusal (close_table engine (length memory) client)

unfoldable pub close_memory : EngineRecord → (memory : List ℕ) → (client : ℕ) → List ℕ
close_memory engine memory client = unless_refused (close_number engine memory client) memory (zeroed (client_at engine client).window memory)
