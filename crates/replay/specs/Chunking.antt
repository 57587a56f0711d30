-- A file may be cut into pieces anywhere: what is printed of the pieces, fed one after the other, is what the whole file prints.
-- proofs/Chunking.antt proves it.
use Rattle.std.specs.Prelude.{◌≡◌, List, [], ◌∷◌, ◌++◌, ℕ, ◌≤◌, length, take, drop, replicate}
use Rattle.claims.specs.Engine.{State}
use Rattle.records.specs.declared.Edition.{Edition}
use Rattle.records.specs.Records.{records}
use Rattle.records.specs.Reading.{room_of, file_at, ReaderReady}
use Rattle.records.specs.Editions.{submitted_entries}
use Rattle.lines.specs.Lines.{engine_opened, lines_from, lines}
use Rattle.lines.specs.Answered.{submit_and_run_all}
use Rattle.replay.specs.declared.Replay.{Replay}
use Rattle.replay.specs.declared.FeedResult.{FeedResult}
use Rattle.replay.specs.Calls.{state_of, at_start, FeedContract, finished_text}
use Rattle.lines.specs.Prints.{Prints}

-- ---- where a replay stands

-- After these bytes of a file, of which this text was printed, from an engine on: whatever follows, the lines of the whole file are this text
-- and then those from here on, and the engine after the whole file is the one after the rest from here on.
pub record Stands (engine : State) (seen text : List ℕ) (r : Replay) (held ring memory : List ℕ) : Type 0 where
  pub ready : ReaderReady r.edition r.reader held
  pub prints : (rest : List ℕ)
      → lines_from r.edition engine (records r.edition (seen ++ rest)) ≡ text ++ lines_from r.edition (state_of r ring memory) (file_at r.edition r.reader held rest)
  pub leaves : (rest : List ℕ)
      → submit_and_run_all (submitted_entries r.edition (records r.edition (seen ++ rest)).entries) engine
      ≡ submit_and_run_all (submitted_entries r.edition (file_at r.edition r.reader held rest).entries) (state_of r ring memory)

-- ---- calls

-- the file
unfoldable pub concat_chunks : List (List ℕ) → List ℕ
concat_chunks [] = []
concat_chunks (piece ∷ pieces) = piece ++ concat_chunks pieces

-- Calls of feed and finish as a caller makes them, one after the other, each by its contract: a piece is fed until it is used up, and what a
-- call wrote into the line is printed. A slice that is lent keeps its length.
pub data FeedTrace : Replay → (held ring memory line : List ℕ) → (pieces : List (List ℕ)) → (output : List ℕ) → Type 0 where
  finish : {r : Replay} {held ring memory line : List ℕ} {written : ℕ} {line' : List ℕ}
      → Prints (finished_text r line) line written line'
      → FeedTrace r held ring memory line [] (take written line')
  next_chunk : {r : Replay} {held ring memory line : List ℕ} {pieces : List (List ℕ)} {output : List ℕ}
      → FeedTrace r held ring memory line pieces output
      → FeedTrace r held ring memory line ([] ∷ pieces) output
  feed : {r : Replay} {held ring memory line : List ℕ} {byte : ℕ} {more : List ℕ} {pieces : List (List ℕ)} {output : List ℕ}
      {f : FeedResult} {held' ring' memory' line' : List ℕ}
      → FeedContract r held ring memory (byte ∷ more) line f held' ring' memory' line'
      → length line' ≡ length line
      → FeedTrace f.replay held' ring' memory' line' (drop f.used (byte ∷ more) ∷ pieces) output
      → FeedTrace r held ring memory line ((byte ∷ more) ∷ pieces) (take f.written line' ++ output)

-- ---- the promise: from start's replay on, with buffers that suffice

pub record ChunkingIrrelevant (edition : Edition) : Type 0 where
  -- any pieces print what the file prints
  pub calls : (held line : List ℕ) (pieces : List (List ℕ)) (output : List ℕ) → room_of edition ≤ length held → 128 ≤ length line
      → FeedTrace (at_start edition) held (replicate 32768 0) (replicate 65536 0) line pieces output
      → output ≡ lines edition (records edition (concat_chunks pieces))
  -- a call at a time: at the start; after a call of feed, which uses a byte if there is one; at the end, in print and in the engine
  pub starts : (held ring memory : List ℕ) → room_of edition ≤ length held → Stands (engine_opened edition ring memory) [] [] (at_start edition) held ring memory
  pub feeds : (engine : State) (seen text : List ℕ) (r : Replay) (held ring memory input line : List ℕ) (f : FeedResult) (held' ring' memory' line' : List ℕ)
      → FeedContract r held ring memory input line f held' ring' memory' line' → 128 ≤ length line → Stands engine seen text r held ring memory
      → Stands engine (seen ++ take f.used input) (text ++ take f.written line') f.replay held' ring' memory' × (1 ≤ length input → 1 ≤ f.used)
  pub finishes : (engine : State) (seen text : List ℕ) (r : Replay) (held ring memory line : List ℕ) (written : ℕ) (line' : List ℕ)
      → Stands engine seen text r held ring memory → 128 ≤ length line → Prints (finished_text r line) line written line'
      → text ++ take written line' ≡ lines_from r.edition engine (records r.edition seen)
  pub left : (engine : State) (seen text : List ℕ) (r : Replay) (held ring memory : List ℕ) → Stands engine seen text r held ring memory
      → state_of r ring memory ≡ submit_and_run_all (submitted_entries r.edition (records r.edition seen).entries) engine
