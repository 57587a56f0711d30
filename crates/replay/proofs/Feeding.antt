-- Laws of feed and finish, as the code takes them.
use mathlib.Core.Path.{◌≡◌, refl, sym}
use mathlib.Core.List.{List, []}
use Prim.Native.Nat.{ℕ, zero, suc, ◌≤◌, ◌<◌}
use native.Mathlib.Omega.{arith}
use lib.ListN.{length}
use borrow.Author.Tests.{le-leb, lt-leb}
use Rattle.records.specs.declared.Edition.{Edition}
use Rattle.records.specs.declared.Stage.TheVariants.{Version, Records, Ended}
use Rattle.records.specs.declared.Found.{Found}
use Rattle.records.specs.declared.Found.TheVariants.{Nothing, Record as OneRecord, BadVersion, BadRecord}
use Rattle.records.specs.declared.Taken.{Taken}
use Rattle.records.specs.Records.{bad_version, bad_record, cut_record}
use Rattle.records.specs.Reading.{entry_in, ReaderReady, Takes, ending_at, taken_by, held_after}
use Rattle.engine_record.specs.declared.EngineRecord.{EngineRecord}
use Rattle.claims.specs.Engine.{State, mk_state}
use Rattle.lines.specs.Lines.{ending_line, record_line, record_after}
use Rattle.replay.specs.declared.Replay.{Replay}
use Rattle.replay.specs.declared.serving.SubmitRunResult.{SubmitRunResult}
use Rattle.replay.specs.Calls.{state_of, found_text, found_state, fed_step, fed_held, FeedContract, finished_text}
use Rattle.lines.specs.Prints.{Prints}
use Rattle.replay.specs.SubmitRunContract.{SubmitRunContract}
use Rattle.lines.proofs.record_lines.Printing.{prints-none}

-- ---- what was found

module _ (edition : Edition) (engine : EngineRecord) (ring memory held line : List ℕ) (found : Found) where
  abbrev here : State
  here = mk_state engine ring memory

  abbrev Found_serves : SubmitRunResult → (ring' memory' line' : List ℕ) → Type 0
  Found_serves s ring' memory' line' = SubmitRunContract (found_text edition found held here) (found_state edition found held here) line s ring' memory' line'

  pub found_nothing : found ≡ Nothing → Found_serves (record { engine = engine; written = 0 }) ring memory line
  found_nothing e = rw e (record { engine_is = refl; ring_is = refl; memory_is = refl; prints = prints-none line })

  pub found_record : (end : ℕ) → found ≡ OneRecord end → (s : SubmitRunResult) (ring' memory' line' : List ℕ)
      → SubmitRunContract (record_line edition (entry_in held end) here) (record_after edition (entry_in held end) here) line s ring' memory' line' → Found_serves s ring' memory' line'
  found_record end e s ring' memory' line' serves = rw e serves

  pub found-version : (written : ℕ) (line' : List ℕ) → found ≡ BadVersion → Prints (ending_line bad_version) line written line'
      → Found_serves (record { engine = engine; written = written }) ring memory line'
  found-version written line' e prints = rw e (record { engine_is = refl; ring_is = refl; memory_is = refl; prints = prints })

  pub found-bad : (written : ℕ) (line' : List ℕ) → found ≡ BadRecord → Prints (ending_line bad_record) line written line'
      → Found_serves (record { engine = engine; written = written }) ring memory line'
  found-bad written line' e prints = rw e (record { engine_is = refl; ring_is = refl; memory_is = refl; prints = prints })

-- ---- feed

module _ (r : Replay) (held ring memory input line : List ℕ) where
  pub feeds-short : length line < 128 → FeedContract r held ring memory input line (record { replay = r; used = 0; written = 0 }) held ring memory line
  unfolding fed_step fed_held
  feeds-short short =
      let test = lt-leb 128 (length line) short in
      record {
        edition_is = refl;
        used_is = rw test;
        reader_is = rw test;
        held_is = rw test;
        engine_is = rw test;
        ring_is = rw test;
        memory_is = rw test;
        prints = rw test (prints-none line);
        within = omega arith;
        takes = λ room. absurd (omega arith);
      }

  module _ (room : 128 ≤ length line) (t : Taken) (held' : List ℕ) (is : t ≡ taken_by r.edition r.reader held input) (is_held_lem : held' ≡ held_after r.edition r.reader held input) where
    step_is : fed_step r held input line ≡ t
    unfolding fed_step
    step_is = rw (le-leb 128 (length line) room) (sym is)

    pub feeds-taken : (s : SubmitRunResult) (ring' memory' line' : List ℕ) → t.used ≤ length input → (ReaderReady r.edition r.reader held → Takes r.edition r.reader held input t held')
        → SubmitRunContract (found_text r.edition t.found held' (state_of r ring memory)) (found_state r.edition t.found held' (state_of r ring memory)) line s ring' memory' line'
        → FeedContract r held ring memory input line (record { replay = record { edition = r.edition; engine = s.engine; reader = t.reader }; used = t.used; written = s.written }) held' ring' memory' line'
    unfolding fed_held
    feeds-taken s ring' memory' line' within takes serves = record {
      edition_is = refl;
      used_is = rw step_is;
      reader_is = rw step_is;
      held_is = rw (le-leb 128 (length line) room) is_held_lem;
      engine_is = rw step_is serves.engine_is;
      ring_is = rw step_is serves.ring_is;
      memory_is = rw step_is serves.memory_is;
      prints = rw step_is serves.prints;
      within = within;
      takes = λ long ready. rw step_is (takes ready);
    }

-- ---- finish

module _ (r : Replay) (line : List ℕ) (written : ℕ) (line' : List ℕ) where
  pub finishes-short : length line < 128 → Prints (finished_text r line) line 0 line
  finishes-short short = rw (lt-leb 128 (length line) short) (prints-none line)

  finishes : 128 ≤ length line → (text : List ℕ) → ending_line (ending_at r.reader.stage r.reader.buffered) ≡ text → Prints text line written line' → Prints (finished_text r line) line written line'
  finishes room text e prints = rw (le-leb 128 (length line) room, e) prints

  module _ (room : 128 ≤ length line) where
    pub finishes-version : r.reader.stage ≡ Version → Prints (ending_line bad_version) line written line' → Prints (finished_text r line) line written line'
    finishes-version stage prints = finishes room (ending_line bad_version) (rw stage) prints

    pub finishes-whole : r.reader.stage ≡ Records → r.reader.buffered ≡ 0 → Prints [] line written line' → Prints (finished_text r line) line written line'
    unfolding ending_line
    finishes-whole stage none prints = finishes room [] (rw (stage, none)) prints

    pub finishes_cut : r.reader.stage ≡ Records → (r.reader.buffered ≡ 0 → ⊥) → Prints (ending_line cut_record) line written line' → Prints (finished_text r line) line written line'
    finishes_cut stage some prints = finishes room (ending_line cut_record) (rw stage (cut r.reader.buffered some)) prints
      where
        cut : (n : ℕ) → (n ≡ 0 → ⊥) → ending_line (ending_at Records n) ≡ ending_line cut_record
        cut zero h = absurd (h refl)
        cut (suc n) h = refl

    pub finishes-ended : r.reader.stage ≡ Ended → Prints [] line written line' → Prints (finished_text r line) line written line'
    unfolding ending_line
    finishes-ended stage prints = finishes room [] (rw stage) prints
