-- What the calls answer, and what they leave in the buffers that are lent to them, for every replay and buffer.
use Rattle.std.specs.Prelude.{◌≡◌, List, [], cond, ℕ, ◌≤◌, length, leb}
use Rattle.claims.specs.Engine.{State, mk_state}
use Rattle.records.specs.declared.Edition.{Edition}
use Rattle.records.specs.declared.Stage.TheVariants.{Version}
use Rattle.records.specs.declared.Found.{Found}
use Rattle.records.specs.declared.Found.TheVariants.{Nothing, Record, BadVersion, BadRecord}
use Rattle.records.specs.declared.Taken.{Taken}
use Rattle.records.specs.Records.{bad_version, bad_record}
use Rattle.records.specs.Reading.{entry_in, ReaderReady, Takes, ending_at, nothing_taken, taken_by, held_after}
use Rattle.lines.specs.Lines.{ending_line, record_line, record_after, replay_start}
use Rattle.replay.specs.declared.Replay.{Replay}
use Rattle.replay.specs.declared.FeedResult.{FeedResult}
use Rattle.lines.specs.Prints.{Prints}

-- the engine of a replay, with the ring and memory that are lent with it
abbrev pub state_of : Replay → (ring memory : List ℕ) → State
state_of r ring memory = mk_state r.engine ring memory

abbrev pub at_start : Edition → Replay
at_start edition = record { edition = edition; engine = (replay_start edition).engine; reader = record { stage = Version; buffered = 0 } }

-- ---- what the reading found (crate records): what is printed of it, and the engine after it

abbrev pub found_text : Edition → Found → (held : List ℕ) → State → List ℕ
found_text edition Nothing held s = []
found_text edition (Record end) held s = record_line edition (entry_in held end) s
found_text edition BadVersion held s = ending_line bad_version
found_text edition BadRecord held s = ending_line bad_record

abbrev pub found_state : Edition → Found → (held : List ℕ) → State → State
found_state edition Nothing held s = s
found_state edition (Record end) held s = record_after edition (entry_in held end) s
found_state edition BadVersion held s = s
found_state edition BadRecord held s = s

-- ---- feed

-- one step of the reading, or nothing at all where the line may be too short
unfoldable pub fed_step : Replay → (held input line : List ℕ) → Taken
fed_step r held input line = cond (leb 128 (length line)) (taken_by r.edition r.reader held input) (nothing_taken r.reader 0)

unfoldable pub fed_held : Replay → (held input line : List ℕ) → List ℕ
fed_held r held input line = cond (leb 128 (length line)) (held_after r.edition r.reader held input) held

pub record FeedContract (r : Replay) (held ring memory input line : List ℕ) (f : FeedResult) (held' ring' memory' line' : List ℕ) : Type 0 where
  pub edition_is : f.replay.edition ≡ r.edition
  pub used_is : f.used ≡ (fed_step r held input line).used
  pub reader_is : f.replay.reader ≡ (fed_step r held input line).reader
  pub held_is : held' ≡ fed_held r held input line
  pub engine_is : f.replay.engine ≡ (found_state r.edition (fed_step r held input line).found held' (state_of r ring memory)).engine
  pub ring_is : ring' ≡ (found_state r.edition (fed_step r held input line).found held' (state_of r ring memory)).ring
  pub memory_is : memory' ≡ (found_state r.edition (fed_step r held input line).found held' (state_of r ring memory)).memory
  pub prints : Prints (found_text r.edition (fed_step r held input line).found held' (state_of r ring memory)) line f.written line'
  -- so the file goes on from there, whatever follows
  pub within : f.used ≤ length input
  pub takes : 128 ≤ length line → ReaderReady r.edition r.reader held → Takes r.edition r.reader held input (fed_step r held input line) held'

-- ---- finish

-- what it prints: nothing into a line that may be too short
abbrev pub finished_text : Replay → (line : List ℕ) → List ℕ
finished_text r line = cond (leb 128 (length line)) (ending_line (ending_at r.reader.stage r.reader.buffered)) []
