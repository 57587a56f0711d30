-- What a replay hands over and leaves in memory, whatever was read. Which bytes come, and how they are cut, is left to the system: memory is what the
-- records of some bytes leave in it, and as many bytes are handed over to be written as their lines have (crate replay: Chunking).
use Rattle.std.specs.Prelude.{◌≡◌, ℕ, ◌%◌, ◌^◌, Bool, cond, List, ◌++◌, length, take, replicate, Result, IsOk, IfOk}
use Rattle.command.specs.declared.Failed.{Failed}
use Rattle.claims.specs.Engine.{State}
use Rattle.records.specs.declared.Edition.{Edition}
use Rattle.records.specs.Records.{records}
use Rattle.records.specs.Editions.{submitted_entries}
use Rattle.lines.specs.Lines.{engine_opened, lines_from}
use Rattle.lines.specs.Answered.{submit_and_run_all}
use Rattle.replay.specs.declared.Replay.{Replay}
use Rattle.lines.specs.Prints.{Prints}
use Rattle.replay.specs.Calls.{finished_text}
use Rattle.replay.specs.Chunking.{Stands}

-- how many bytes of this text are handed over, if lines are shown; counted modulo 2 to the 64th
abbrev pub handed_of : (shows : Bool) → (text : List ℕ) → ℕ
handed_of shows text = cond shows (length text % 2 ^ 64) 0

-- Internal: after a piece of the file, where these bytes were seen before it and this text was handed over: some of its bytes were fed, all of them
-- if nothing failed, and what they print was handed over
pub record PieceFed (edition : Edition) (engine : State) (seen text piece : List ℕ) (shows : Bool) (r : Replay) (handed : ℕ) (outcome : Result Unit Failed) (held ring memory : List ℕ) : Type 0 where
  pub used : ℕ
  pub more : List ℕ
  pub of : r.edition ≡ edition
  pub stands : Stands engine (seen ++ take used piece) (text ++ more) r held ring memory
  pub counts : handed ≡ handed_of shows (text ++ more)
  pub whole : IsOk outcome → used ≡ length piece

-- Internal: where a replay of this edition stands after some bytes, of which some text was handed over
pub record Reached (edition : Edition) (engine : State) (shows : Bool) (handed : ℕ) (r : Replay) (held ring memory : List ℕ) : Type 0 where
  pub seen : List ℕ
  pub text : List ℕ
  pub of : r.edition ≡ edition
  pub stands : Stands engine seen text r held ring memory
  pub counts : handed ≡ handed_of shows text

-- Internal: the last line, and how many bytes of it were handed over
pub record Finishes (r : Replay) (shows : Bool) (line : List ℕ) (handed : ℕ) (line' : List ℕ) : Type 0 where
  pub written : ℕ
  pub prints : Prints (finished_text r line) line written line'
  pub counts : handed ≡ cond shows written 0

-- memory is left as the records of some file of this edition leave it, or of the beginning of one; if nothing failed, as many bytes were handed
-- over as the lines of the whole file have. What the ring held at the start does not matter
pub record Replayed (edition : Edition) (memory : List ℕ) (shows : Bool) (handed : Result ℕ Failed) (memory' : List ℕ) : Type 0 where
  pub ring : List ℕ
  pub seen : List ℕ
  pub left : memory' ≡ (submit_and_run_all (submitted_entries edition (records edition seen).entries) (engine_opened edition ring memory)).memory
  pub lines : IfOk handed (λ n. n ≡ handed_of shows (lines_from edition (engine_opened edition ring memory) (records edition seen)))

-- the same of a program's own memory: 65,536 zero bytes at the start
pub record ReplayedInZeros (edition : Edition) (shows : Bool) (handed : Result ℕ Failed) : Type 0 where
  pub memory : List ℕ
  pub replayed : Replayed edition (replicate 65536 0) shows handed memory
