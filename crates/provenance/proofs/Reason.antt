-- The reason is true: the law of a list of tasks, lifted over a record and over the records.
use mathlib.Core.Path.{◌≡◌, refl, sym, ap, subst, ◌∙◌}
use mathlib.Core.Bool.{Bool, true, false, cond}
use mathlib.Core.Logic.{inl, inr}
use mathlib.Core.List.{List, [], ◌∷◌, ◌++◌}
use Prim.Native.Nat.{ℕ, ◌<◌}
use lib.ListN.{length, get_or, replicate, length-replicate, get_or-replicate}
use lib.Dec.{eqb}
use Rattle.records.specs.declared.Edition.TheVariants.{First}
use Rattle.word.specs.Word.{words}
use Rattle.register.specs.declared.task.Task.{Task}
use Rattle.task_check.specs.declared.task.Bounds.{Bounds}
use Rattle.task_check.proofs.Sound.{AllSound}
use Rattle.batch.specs.Batch.{tasks_drawn}
use Rattle.batch.proofs.Tasks.{drawn-sound}
use Rattle.raster.specs.Task.{draw_tasks}
use Rattle.raster.specs.Batch.{draw_batch}
use Rattle.claims.specs.BatchSemantics.{bounds_of}
use Rattle.claims.specs.Engine.{State}
use Rattle.records.specs.Records.{Entry}
use Rattle.lines.specs.Lines.{file_reset, engine_opened, replay_start, submit_and_run}
use Rattle.lines.specs.Answered.{record_refusal, replay_window, ticket_of_count, count_after, drawn_after, accepted_from, submit_and_run_all}
use Rattle.lines.proofs.Answered.{promise as answered}
use Rattle.lines.proofs.Start.{starting_state}
use Rattle.std.specs.Prelude.{Option, None}
use Rattle.provenance.specs.declared.Touch.{Touch}
use Rattle.provenance.specs.Drawn.{Drawn, numbered, reading_of, drawn_by, drawn_from, tasks_of}
use Rattle.provenance.specs.Touched.{last_from, touched_by}
use Rattle.provenance.specs.Reason.{zeros, memory_drawn, byte_after, True, ProvenanceHolds}
use Rattle.provenance.proofs.Given.{given}
use Rattle.provenance.proofs.Blamed.{blames}
use Rattle.provenance.proofs.Tasks.{tasks-append, tasks-numbered, draw-append, AllRows, rows_append, Last, last-is, writes, keeps, untouched}

-- ---- a record

sound-rows : (bounds : Bounds) (ts : List Task) → AllSound bounds ts → AllRows ts
sound-rows bounds [] h = tt
sound-rows bounds (t ∷ ts) h = (h.0.rows, sound-rows bounds ts h.1)

record_rows : (count : ℕ) (entry : Entry) → AllRows (tasks_of (drawn_by count entry))
unfolding drawn_by tasks_of
record_rows count entry = go (eqb (record_refusal entry) 0)
  where
    go : (b : Bool) → AllRows (tasks_of (cond b (numbered (ticket_of_count count) 0 (tasks_drawn (reading_of entry))) []))
    go true =
        let bounds = bounds_of (replay_window entry.client) 16384 in
        rw tasks-numbered (sound-rows bounds (tasks_drawn (reading_of entry)) (drawn-sound bounds (file_reset First) (words entry.batch)))
    go false = tt

-- memory after it
record_draws : (count : ℕ) (entry : Entry) (memory : List ℕ) → drawn_after First entry memory ≡ draw_tasks (tasks_of (drawn_by count entry)) memory
unfolding drawn_by tasks_of draw_batch draw_tasks
record_draws count entry memory = go (eqb (record_refusal entry) 0)
  where
    go : (b : Bool) → cond b (draw_batch (bounds_of (replay_window entry.client) 16384) (file_reset First) (words entry.batch) memory) memory
        ≡ draw_tasks (tasks_of (cond b (numbered (ticket_of_count count) 0 (tasks_drawn (reading_of entry))) [])) memory
    go true = rw tasks-numbered
    go false = refl

-- ---- the records

drawn-rows : (count : ℕ) (entries : List Entry) → AllRows (tasks_of (drawn_from count entries))
unfolding drawn_from tasks_of
drawn-rows count [] = tt
drawn-rows count (entry ∷ entries) =
    rw tasks-append (rows_append (tasks_of (drawn_by count entry)) (tasks_of (drawn_from (count_after count entry) entries)) (record_rows count entry) (drawn-rows (count_after count entry) entries))

-- one record more
served_more : (before : List Entry) (entry : Entry) (s : State) → submit_and_run_all (before ++ entry ∷ []) s ≡ (submit_and_run entry (submit_and_run_all before s)).after
unfolding submit_and_run_all
served_more [] entry s = refl
served_more (b ∷ bs) entry s = served_more bs entry (submit_and_run b s).after

accepted-more : (before : List Entry) (entry : Entry) (count : ℕ) → accepted_from count (before ++ entry ∷ []) ≡ count_after (accepted_from count before) entry
unfolding accepted_from
accepted-more [] entry count = refl
accepted-more (b ∷ bs) entry count = accepted-more bs entry (count_after count b)

module _ (ring memory : List ℕ) (long : length ring ≡ 32768) (size : length memory ≡ 65536) where
  abbrev reached : List Entry → State
  reached before = submit_and_run_all before (engine_opened First ring memory)

  memory-from : (entries before : List Entry) → (submit_and_run_all entries (reached before)).memory ≡ draw_tasks (tasks_of (drawn_from (accepted_from 0 before) entries)) (reached before).memory
  unfolding submit_and_run_all drawn_from tasks_of draw_tasks
  memory-from [] before = refl
  memory-from (entry ∷ entries) before =
      let count : ℕ = accepted_from 0 before in
      let now : List Task = tasks_of (drawn_by count entry) in
      let then : List Task = tasks_of (drawn_from (count_after count entry) entries) in
      let next : State = (submit_and_run entry (reached before)).after in
      let one : next.memory ≡ draw_tasks now (reached before).memory = ((answered First).each ring memory long size before entry).draws ∙ record_draws count entry (reached before).memory in
      let on : (submit_and_run_all entries next).memory ≡ draw_tasks then next.memory =
      rw (served_more before entry (engine_opened First ring memory), accepted-more before entry 0) at (memory-from entries (before ++ entry ∷ [])) in
      on
      ∙ ap (draw_tasks then) one
      ∙ sym (draw-append now then (reached before).memory)
      ∙ ap (λ (ts : List Task). draw_tasks ts (reached before).memory) (sym (tasks-append (drawn_by count entry) (drawn_from (count_after count entry) entries)))

-- ---- from the start

engine : (entries : List Entry) → (submit_and_run_all entries (replay_start First)).memory ≡ memory_drawn (drawn_from 0 entries)
unfolding replay_start zeros submit_and_run_all accepted_from
engine entries =
    let zero-ring = length-replicate {A = ℕ} 32768 0 in
    let zero-memory = length-replicate {A = ℕ} 65536 0 in
    memory-from (replicate 32768 0) (replicate 65536 0) zero-ring zero-memory entries []
    ∙ ap (λ (s : State). draw_tasks (tasks_of (drawn_from 0 entries)) s.memory) (sym (starting_state First))

zeros_long : length zeros ≡ 65536
unfolding zeros
zeros_long = length-replicate {A = ℕ} 65536 0

zeros-zero : (i : ℕ) → i < 65536 → get_or zeros i 0 ≡ 0
unfolding zeros
zeros-zero i l = get_or-replicate {A = ℕ} 65536 i 0 0 l

module _ (entries : List Entry) (i : ℕ) (l : i < 65536) where
  abbrev all : List Drawn
  all = drawn_from 0 entries

  abbrev answer : Option Touch
  answer = last_from None i all

  byte-is : byte_after entries i ≡ get_or (memory_drawn all) i 0
  byte-is = ap (λ (m : List ℕ). get_or m i 0) (engine entries)

  true_by : Last None i all answer → True entries i answer
  true_by (inl none) = subst (λ (a : Option Touch). True entries i a) (sym none.0) (record {
    outside = none.1;
    zero = byte-is ∙ untouched all (drawn-rows 0 entries) zeros i none.1 ∙ zeros-zero i l;
  })
  true_by (inr w) =
      let rows : AllRows (tasks_of (w.before ++ w.drawn ∷ w.after)) = rw w.among at (drawn-rows 0 entries) in
      let inside : i < length zeros = rw zeros_long l in
      subst (λ (a : Option Touch). True entries i a) (sym w.named) (record {
        before = w.before;
        drawn = w.drawn;
        after = w.after;
        among = w.among;
        named = refl;
        batch = given entries w.before w.after w.drawn w.among;
        row = w.row;
        place = w.place;
        held = w.held;
        wrote = writes w.before w.after w.drawn rows zeros i w.row w.place inside w.held;
        later = w.later;
        stays = byte-is ∙ ap (λ (ds : List Drawn). get_or (memory_drawn ds) i 0) w.among ∙ keeps w.before w.after w.drawn rows zeros i w.row w.place inside w.held w.later;
      })

  reason : True entries i (touched_by entries i)
  unfolding touched_by
  reason = true_by (last-is None i all (drawn-rows 0 entries))

pub promise : ProvenanceHolds
promise = record { engine = engine; reason = reason; blames = blames }
