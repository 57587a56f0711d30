-- What is answered of each record of a replay file that is submitted (01, "Writer and replay": the program "submits each record and, if accepted,
-- runs it. Each prints one line"), whatever records went before it. Ring and memory at the start are any of the program's lengths; the program's are zero.
-- No run is refused, and of submit's refusals only 5 and 6 come: nothing waits when a record is submitted. proofs/Answered.antt proves `ReplayAnswersHold`.
use Rattle.std.specs.Prelude.{◌≡◌, List, [], ◌∷◌, ◌++◌, cond, ℕ, ◌+◌, ◌*◌, ◌%◌, length, eqb, ltb}
use Rattle.model.specs.Windows.{Window, window}
use Rattle.model.specs.Calls.{submit, run, CompletionStatus, Answer, accepted, completed}
use Rattle.model.specs.Refusals.{bad_length}
use Rattle.claims.specs.ModelProperties.{batch_semantics}
use Rattle.claims.specs.Engine.{State, CallResult, answer_or_refusal, perform_call}
use Rattle.records.specs.declared.Edition.{Edition}
use Rattle.records.specs.declared.Edition.TheVariants.{First}
use Rattle.records.specs.Records.{Entry, FileEnd, File}
use Rattle.records.specs.Editions.{score_holds, submission}
use Rattle.lines.specs.Lines.{setup, engine_opened, submit_and_run, answer_line, entry_line, ending_line, bad_score_line, lines}

-- ---- a record by itself

-- 01, the table: 5 "no such desk", of which there are 0 to 3; 6 "length 0, no multiple of 4, or over the ring length"; 0 for neither. The ring
-- is the same in both editions
abbrev pub record_refusal : Entry → ℕ
record_refusal entry = cond (ltb 3 entry.client) 5 (cond (bad_length (setup First) (length entry.batch)) 6 0)

-- "four windows of 12,288", after the 16,384 bytes of common
abbrev pub replay_window : (client : ℕ) → Window
replay_window client = window (16384 + client * 12288) 12288

-- status, fault and offset of the record's own batch, judged in its own client's window
abbrev pub verdict : Edition → Entry → CompletionStatus
verdict edition entry = (batch_semantics (setup edition)).verdict (replay_window entry.client) 16384 entry.batch

-- ---- after other records, of which so many were accepted

-- 01, "Engine, desks, queue": "Accepted batches get tickets 0, 1, 2, ..; tickets go on from 4,294,967,295 to 0"
abbrev pub ticket_of_count : (count : ℕ) → ℕ
ticket_of_count count = count % 4294967296

-- submit's refusal, or else the completion
abbrev pub answer_after : Edition → (count : ℕ) → Entry → Answer
answer_after edition count entry = answer_or_refusal (record_refusal entry) (completed entry.client (ticket_of_count count) (verdict edition entry))

-- the count after it: a refused record takes no ticket
abbrev pub count_after : (count : ℕ) → Entry → ℕ
count_after count entry = count + cond (eqb (record_refusal entry) 0) 1 0

-- what is printed of these records and the file's end: no engine is asked
unfoldable pub lines_after : Edition → (count : ℕ) → List Entry → FileEnd → List ℕ
lines_after edition count [] ending = ending_line ending
lines_after edition count (entry ∷ entries) ending =
    let submitted : Entry = submission edition entry in
    cond (score_holds edition entry)
    (answer_line submitted.client (answer_after edition count submitted) ++ lines_after edition (count_after count submitted) entries ending)
    (bad_score_line ++ lines_after edition count entries ending)

-- memory after it: its own batch drawn in its own client's window; a refused record draws nothing
abbrev pub drawn_after : Edition → Entry → List ℕ → List ℕ
drawn_after edition entry memory = cond (eqb (record_refusal entry) 0) ((batch_semantics (setup edition)).draw (replay_window entry.client) 16384 entry.batch memory) memory

-- ---- lines

-- the line feeds in a text
unfoldable pub line_feeds : List ℕ → ℕ
line_feeds [] = 0
line_feeds (byte ∷ bytes) = cond (eqb byte 10) 1 0 + line_feeds bytes

-- a text with one line feed, at its end
pub record OneLine (text : List ℕ) : Type 0 where
  pub inner : List ℕ
  pub ended : text ≡ inner ++ (10 ∷ [])
  pub unbroken : line_feeds inner ≡ 0

-- ---- the promise

-- how many of these records are accepted
unfoldable pub accepted_from : (count : ℕ) → List Entry → ℕ
accepted_from count [] = count
accepted_from count (entry ∷ entries) = accepted_from (count_after count entry) entries

-- record, ring and memory after them
unfoldable pub submit_and_run_all : List Entry → State → State
submit_and_run_all [] s = s
submit_and_run_all (entry ∷ entries) s = submit_and_run_all entries (submit_and_run entry s).after

module _ (edition : Edition) (ring memory : List ℕ) (before : List Entry) (entry : Entry) where
  abbrev pub count : ℕ
  count = accepted_from 0 before

  abbrev pub reached : State
  reached = submit_and_run_all before (engine_opened edition ring memory)

  abbrev pub submit_reply : CallResult
  submit_reply = perform_call (submit entry.client entry.batch) reached

  pub record RecordAnswered : Type 0 where
    -- submit refuses the record for itself alone, or gives it the next ticket
    pub submits : submit_reply.answer ≡ answer_or_refusal (record_refusal entry) (accepted (ticket_of_count count))
    -- "if accepted, runs it": run completes this record, for its own client, with the ticket that submit gave
    pub runs : (ticket : ℕ) → submit_reply.answer ≡ accepted ticket → (perform_call run submit_reply.after).answer ≡ completed entry.client ticket (verdict edition entry)
    -- so this is what its line says
    pub answers : (submit_and_run entry reached).answer ≡ answer_after edition count entry
    pub one_line : OneLine (entry_line entry reached)
    -- and this is what it does to memory
    pub draws : (submit_and_run entry reached).after.memory ≡ drawn_after edition entry reached.memory

pub record ReplayAnswersHold (edition : Edition) : Type 0 where
  pub each : (ring memory : List ℕ) → length ring ≡ 32768 → length memory ≡ 65536 → (before : List Entry) (entry : Entry) → RecordAnswered edition ring memory before entry
  -- the program's text, from the first record to the end of the file; and how many lines it has
  pub text : (file : File) → lines edition file ≡ lines_after edition 0 file.entries file.ending
  pub line_count : (file : File) → line_feeds (lines edition file) ≡ length file.entries + line_feeds (ending_line file.ending)
