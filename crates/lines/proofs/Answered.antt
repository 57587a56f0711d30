-- Each record of a replay is answered as specs/Answered says. Before it the engine stands for a model with the four windows in which nothing
-- waits; submit and run, one after the other, lead to such a model again.
use mathlib.Core.Path.{◌≡◌, refl, sym, ap, ◌∙◌}
use mathlib.Core.Bool.{Bool, true, false, cond, ◌||◌, not}
use mathlib.Core.List.{List, [], ◌∷◌}
use Prim.Native.Nat.{ℕ, zero, suc, ◌+◌, ◌%◌, ◌≤◌}
use native.Mathlib.Omega.{arith}
use lib.ListN.{length, get_or, replicate, length-replicate}
use lib.Dec.{ltb, eqb, eqb-suc-zero}
use borrow.Author.Tests.{lt-ltb, ltb-false}
use Rattle.queue.specs.Answers.{answer_unless_refused}
use Rattle.queue.specs.Refusals.{first_refusal as firstRow}
use Rattle.queue.specs.Calls.{set_up_result}
use Rattle.model.specs.Windows.{Window, window, overlap_any}
use Rattle.model.specs.Calls.{submit, run, accepted, completed}
use Rattle.model.specs.State.{Model, Place, free, taken as held, is_taken, lowest_free_id, windows_in, idle, total_bytes, window_of as window_in}
use Rattle.model.specs.Refusals.{refusal_table, first_holding, refusal as refusalIn, bad_length}
use Rattle.model.specs.Model.{refuse, enqueue, run_step, refuse_or, effect, step, after, model_after_all}
use Rattle.claims.specs.ModelProperties.{batch_semantics}
use Rattle.claims.specs.Engine.{State, CallResult, answer_or_refusal, perform_call, SetUpAccepted}
use Rattle.claims.proofs.Confined.{confined}
use Rattle.claims.proofs.SimulationRelation.{Related}
use Rattle.claims.proofs.SimulationSteps.{Simulates}
use Rattle.claims.proofs.Simulation.{step_simulates, at-end}
use Rattle.records.specs.declared.Edition.{Edition}
use Rattle.records.specs.Records.{Entry, FileEnd, File}
use Rattle.records.specs.Editions.{score_holds, submission}
use Rattle.lines.specs.Lines.{setup, file_reset, opening, engine_opened, replay_start, submit_and_run, entry_line, ending_line, printed_from, lines}
use Rattle.lines.specs.Answered.{record_refusal, replay_window, verdict, ticket_of_count, answer_after, count_after, drawn_after, lines_after, line_feeds, OneLine, accepted_from, submit_and_run_all, RecordAnswered, ReplayAnswersHold}
use Rattle.lines.proofs.LineFeeds.{feeds-append, one-feed, answer-one, bad_score-feed}

module _ (edition : Edition) where
  -- ---- the model between two records

  abbrev places : List Place
  places = held (window 16384 12288) ∷ held (window 28672 12288) ∷ held (window 40960 12288) ∷ held (window 53248 12288) ∷ []

  abbrev resting : ℕ → List ℕ → Model
  resting count memory = record { places = places; waiting = []; staged = idle; accepted = count; memory = memory }

  -- and with a record's batch
  abbrev holding : ℕ → List ℕ → Entry → Model
  holding count memory entry = (enqueue (resting count memory) entry.client entry.batch).after

  -- the engine between two records, so many having been accepted
  record Stands (count : ℕ) (s : State) : Type 0 where
    memory : List ℕ
    size : length memory ≡ 65536
    related : Related (setup edition) 32768 (resting count memory) s

  memory_is : {model : Model} {s : State} → Related (setup edition) 32768 model s → model.memory ≡ s.memory
  memory_is r = ap (λ (m : Model). m.memory) r.is

  -- ---- what the table says of a record

  open_like : (client : ℕ) → not (is_taken (get_or places client free)) ≡ ltb 3 client
  open_like zero = refl
  open_like (suc zero) = refl
  open_like (suc (suc zero)) = refl
  open_like (suc (suc (suc zero))) = refl
  open_like (suc (suc (suc (suc client)))) = sym (lt-ltb 3 (suc (suc (suc (suc client)))) (omega arith))

  -- 8 cannot come behind 6, as the ring is empty
  never_eight : (a over : Bool) → ◌≡◌ {A = ℕ} (cond (a || over) 6 (cond over 8 0)) (cond (a || over) 6 0)
  never_eight true over = refl
  never_eight false true = refl
  never_eight false false = refl

  refusal_is : (count : ℕ) (memory : List ℕ) (entry : Entry) → refusalIn (setup edition) 32768 (resting count memory) (submit entry.client entry.batch) ≡ record_refusal entry
  unfolding refusal_table first_holding total_bytes
  refusal_is count memory entry =
      let size : ℕ = length entry.batch in
      rw (open_like entry.client, never_eight (eqb size 0 || not (eqb (size % 4) 0)) (ltb 32768 size))

  -- a record that is not refused is of one of the four
  passed : (far bad : Bool) → ◌≡◌ {A = ℕ} (cond far 5 (cond bad 6 0)) 0 → far ≡ false
  passed true bad e = absurd (omega arith)
  passed false bad e = refl

  owner : (entry : Entry) → record_refusal entry ≡ 0 → entry.client ≤ 3
  owner entry e = ltb-false 3 entry.client (passed (ltb 3 entry.client) (bad_length (setup edition) (length entry.batch)) e)

  -- whose window is the one at its place
  window-is : (count : ℕ) (memory : List ℕ) (client : ℕ) → client ≤ 3 → window_in (resting count memory) client ≡ replay_window client
  window-is count memory zero h = refl
  window-is count memory (suc zero) h = refl
  window-is count memory (suc (suc zero)) h = refl
  window-is count memory (suc (suc (suc zero))) h = refl
  window-is count memory (suc (suc (suc (suc client)))) h = absurd (omega arith)

  -- ---- one record

  module _ (count : ℕ) (s : State) (S : Stands count s) (entry : Entry) where
    abbrev now : Model
    now = resting count S.memory

    abbrev taken : Model
    taken = holding count S.memory entry

    abbrev drawn : List ℕ
    drawn = (batch_semantics (setup edition)).draw (window_in now entry.client) 16384 entry.batch S.memory

    abbrev submit_reply : CallResult
    submit_reply = perform_call (submit entry.client entry.batch) s

    abbrev ran : CallResult
    ran = perform_call run submit_reply.after

    submit-alike : Simulates (setup edition) 32768 submit_reply (refuse_or (record_refusal entry) now (enqueue now entry.client entry.batch))
    unfolding effect
    submit-alike = rw (← refusal_is count S.memory entry) (step_simulates (setup edition) 32768 (submit entry.client entry.batch) now s S.related)

    -- refused
    module _ (k : ℕ) (e : record_refusal entry ≡ suc k) where
      refused_simulates : Simulates (setup edition) 32768 submit_reply (refuse (suc k) now)
      unfolding refuse_or
      refused_simulates = rw e at submit-alike

      served_no : submit_and_run entry s ≡ submit_reply
      unfolding submit_and_run
      served_no = rw refused_simulates.0

    -- accepted
    module _ (e : record_refusal entry ≡ 0) where
      accepted_simulates : Simulates (setup edition) 32768 submit_reply (enqueue now entry.client entry.batch)
      unfolding refuse_or
      accepted_simulates = rw e at submit-alike

      served_yes : submit_and_run entry s ≡ ran
      unfolding submit_and_run
      served_yes = rw accepted_simulates.0

      run_step_lem : step (batch_semantics (setup edition)) (setup edition) 32768 run taken ≡ run_step (batch_semantics (setup edition)) 16384 taken taken.waiting
      unfolding refuse_or effect refusal_table first_holding
      run_step_lem = rw S.size

      run-alike : Simulates (setup edition) 32768 ran (run_step (batch_semantics (setup edition)) 16384 taken taken.waiting)
      run-alike = rw run_step_lem at (step_simulates (setup edition) 32768 run taken submit_reply.after accepted_simulates.1)

      completes : ran.answer ≡ completed entry.client (count % 4294967296) (verdict edition entry)
      completes = rw (window-is count S.memory entry.client (owner entry e)) at run-alike.0

      drawn-size : length drawn ≡ 65536
      drawn-size =
          let w : Window = replay_window entry.client in
          let h : entry.client ≤ 3 = owner entry e in
          rw (window-is count S.memory entry.client h) ((confined (file_reset edition) w 16384 entry.batch).sized S.memory (omega (arith, S.size), omega (arith, S.size)) ∙ S.size)

      drawn-memory : ran.after.memory ≡ (batch_semantics (setup edition)).draw (replay_window entry.client) 16384 entry.batch s.memory
      drawn-memory =
          sym (memory_is run-alike.1)
          ∙ ap (λ (w : Window). (batch_semantics (setup edition)).draw w 16384 entry.batch S.memory) (window-is count S.memory entry.client (owner entry e))
          ∙ ap ((batch_semantics (setup edition)).draw (replay_window entry.client) 16384 entry.batch) (memory_is S.related)

    -- what is answered, and where it leads
    record AnsweredStep : Type 0 where
      submits : submit_reply.answer ≡ answer_or_refusal (record_refusal entry) (accepted (ticket_of_count count))
      runs : (ticket : ℕ) → submit_reply.answer ≡ accepted ticket → ran.answer ≡ completed entry.client ticket (verdict edition entry)
      answers : (submit_and_run entry s).answer ≡ answer_after edition count entry
      draws : (submit_and_run entry s).after.memory ≡ drawn_after edition entry s.memory
      onward : Stands (count_after count entry) (submit_and_run entry s).after

    one : AnsweredStep
    unfolding answer_or_refusal
    one = go (record_refusal entry) refl
      where
        go : (n : ℕ) → record_refusal entry ≡ n → AnsweredStep
        go zero e =
            let yes = (accepted_simulates e).0 in
            let next : count_after count entry ≡ suc count = rw e (omega arith) in
            record {
              submits = rw e yes;
              runs = λ ticket a. let same : ticket_of_count count ≡ ticket = cc in rw (← same) (completes e);
              answers = rw (e, served_yes e) (completes e);
              draws = ap (λ (c : CallResult). c.after.memory) (served_yes e) ∙ rw e (drawn-memory e);
              onward = rw (next, served_yes e) (record { memory = drawn; size = drawn-size e; related = (run-alike e).1 });
            }
        go (suc k) e =
            let no = (refused_simulates k e).0 in
            let next : count_after count entry ≡ count = rw (e, eqb-suc-zero k) (omega arith) in
            record {
              submits = rw e no;
              runs = λ ticket a. absurd (let z : ◌≡◌ {A = ℕ} 0 1 = cc in omega arith);
              answers = rw (e, served_no k e) no;
              draws = ap (λ (c : CallResult). c.after.memory) (served_no k e) ∙ rw (e, eqb-suc-zero k) (sym (memory_is (refused_simulates k e).1) ∙ memory_is S.related);
              onward = rw (next, served_no k e) (record { memory = S.memory; size = S.size; related = (refused_simulates k e).1 });
            }

    one_line : OneLine (entry_line entry s)
    one_line = rw one.answers (answer-one (record_refusal entry) entry.client (ticket_of_count count) (verdict edition entry))

  -- ---- any records

  stands_on : (before : List Entry) (count : ℕ) (s : State) → Stands count s → Stands (accepted_from count before) (submit_and_run_all before s)
  unfolding submit_and_run_all accepted_from
  stands_on [] count s S = S
  stands_on (entry ∷ entries) count s S = stands_on entries (count_after count entry) (submit_and_run entry s).after (one count s S entry).onward

  module _ (ending : FileEnd) where
    -- a record whose score holds, or not
    module _ (entry : Entry) (entries : List Entry) (count : ℕ) (s : State) (S : Stands count s) where
      abbrev own : Entry
      own = submission edition entry

      -- a record with a bad score takes no ticket
      bad_score-past : score_holds edition entry ≡ false
          → printed_from edition s entries ending ≡ lines_after edition count entries ending
          → printed_from edition s (entry ∷ entries) ending ≡ lines_after edition count (entry ∷ entries) ending
      unfolding printed_from lines_after
      bad_score-past e past = rw (e, past)

      text_by : (b : Bool) → score_holds edition entry ≡ b
          → printed_from edition (submit_and_run own s).after entries ending ≡ lines_after edition (count_after count own) entries ending
          → printed_from edition s entries ending ≡ lines_after edition count entries ending
          → printed_from edition s (entry ∷ entries) ending ≡ lines_after edition count (entry ∷ entries) ending
      unfolding printed_from lines_after
      text_by true e on past = rw (e, (one count s S own).answers, on)
      text_by false e on past = bad_score-past e past

      count_by : (b : Bool) → score_holds edition entry ≡ b
          → line_feeds (printed_from edition (submit_and_run own s).after entries ending) ≡ length entries + line_feeds (ending_line ending)
          → line_feeds (printed_from edition s entries ending) ≡ length entries + line_feeds (ending_line ending)
          → line_feeds (printed_from edition s (entry ∷ entries) ending) ≡ suc (length entries) + line_feeds (ending_line ending)
      unfolding printed_from
      count_by true e on past = rw (e, feeds-append, one-feed (entry_line own s) (one_line count s S own), on) (omega arith)
      count_by false e on past = rw (e, feeds-append, bad_score-feed, past) (omega arith)

    text-from : (entries : List Entry) (count : ℕ) (s : State) → Stands count s → printed_from edition s entries ending ≡ lines_after edition count entries ending
    unfolding printed_from lines_after
    text-from [] count s S = refl
    text-from (entry ∷ entries) count s S =
        let own : Entry = submission edition entry in
        text_by entry entries count s S (score_holds edition entry) refl (text-from entries (count_after count own) (submit_and_run own s).after (one count s S own).onward) (text-from entries count s S)

    count-from : (entries : List Entry) (count : ℕ) (s : State) → Stands count s → line_feeds (printed_from edition s entries ending) ≡ length entries + line_feeds (ending_line ending)
    unfolding printed_from
    count-from [] count s S = omega arith
    count-from (entry ∷ entries) count s S =
        let own : Entry = submission edition entry in
        count_by entry entries count s S (score_holds edition entry) refl (count-from entries (count_after count own) (submit_and_run own s).after (one count s S own).onward) (count-from entries count s S)

  -- ---- from the start

  set_up : SetUpAccepted (setup edition)
  unfolding set_up_result answer_unless_refused firstRow
  set_up = refl

  opens-four : (n : ℕ) (memory : List ℕ) → model_after_all (batch_semantics (setup edition)) (setup edition) n opening memory ≡ resting 0 memory
  unfolding after effect refuse_or refusal_table first_holding overlap_any lowest_free_id windows_in
  opens-four n memory = refl

  starts : (ring memory : List ℕ) → length ring ≡ 32768 → length memory ≡ 65536 → Stands 0 (engine_opened edition ring memory)
  unfolding engine_opened
  starts ring memory long size = record {
    memory = memory;
    size = size;
    related = rw (opens-four (length ring) memory, long) at (at-end (setup edition) ring set_up opening memory);
  }

  program_starts : Stands 0 (replay_start edition)
  unfolding replay_start
  program_starts = starts (replicate 32768 0) (replicate 65536 0) (length-replicate {A = ℕ} 32768 0) (length-replicate {A = ℕ} 65536 0)

  each : (ring memory : List ℕ) → length ring ≡ 32768 → length memory ≡ 65536 → (before : List Entry) (entry : Entry) → RecordAnswered edition ring memory before entry
  each ring memory long size before entry =
      let count : ℕ = accepted_from 0 before in
      let s : State = submit_and_run_all before (engine_opened edition ring memory) in
      let S : Stands count s = stands_on before 0 (engine_opened edition ring memory) (starts ring memory long size) in
      let o = one count s S entry in
      record { submits = o.submits; runs = o.runs; answers = o.answers; one_line = one_line count s S entry; draws = o.draws }

  text : (file : File) → lines edition file ≡ lines_after edition 0 file.entries file.ending
  unfolding lines
  text file = text-from file.ending file.entries 0 (replay_start edition) program_starts

  line_count : (file : File) → line_feeds (lines edition file) ≡ length file.entries + line_feeds (ending_line file.ending)
  unfolding lines
  line_count file = count-from file.ending file.entries 0 (replay_start edition) program_starts

  pub promise : ReplayAnswersHold edition
  promise = record { each = each; text = text; line_count = line_count }
