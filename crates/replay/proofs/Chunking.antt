-- A file may be cut anywhere: what a step prints, and what the rest of the file prints from where it leaves the reading, is what the file
-- prints from where the step began. That the reading goes on so is crate records' (`Takes`).
use mathlib.Core.Path.{◌≡◌, refl, sym, ap, subst, ◌∙◌}
use mathlib.Core.List.{List, [], ◌∷◌, ◌++◌, append_assoc, append-nil}
use mathlib.Core.Bool.{Bool, true, false}
use Prim.Native.Nat.{ℕ, ◌+◌, ◌≤◌}
use native.Mathlib.Omega.{arith}
use lib.ListN.{length, take, drop, replicate, take-append-drop}
use lib.Seq.{length-take-le, take-append_seam}
use borrow.Author.Tests.{le-leb}
use Rattle.word.specs.Splice.{spliced}
use Rattle.engine_record.specs.declared.EngineRecord.{EngineRecord}
use Rattle.claims.specs.Engine.{State, mk_state}
use Rattle.records.specs.declared.Edition.{Edition}
use Rattle.records.specs.declared.Edition.TheVariants.{First, Second}
use Rattle.records.specs.declared.Stage.{Stage}
use Rattle.records.specs.declared.Reader.{Reader}
use Rattle.records.specs.declared.Found.{Found}
use Rattle.records.specs.declared.Found.TheVariants.{Nothing, Record as OneRecord, BadVersion, BadRecord}
use Rattle.records.specs.declared.Taken.{Taken}
use Rattle.records.specs.Records.{Entry, File, records}
use Rattle.records.specs.Reading.{room_of, entry_in, file_in, file_at, onto, EndedIfBad, Takes, ending_at}
use Rattle.records.proofs.Bytes.{room-between}
use Rattle.records.proofs.Onward.{file-ends, ends-here}
use Rattle.records.specs.Editions.{score_holds, scored, submitted_entries}
use Rattle.lines.specs.Lines.{ending_line, record_after, printed_from, lines_from, lines, engine_opened, replay_start}
use Rattle.lines.specs.Answered.{submit_and_run_all}
use Rattle.lines.proofs.Start.{started_engine, starting_engine, started_state}
use Rattle.replay.specs.declared.Replay.{Replay}
use Rattle.replay.specs.declared.FeedResult.{FeedResult}
use Rattle.replay.specs.Calls.{state_of, at_start, found_text, found_state, fed_step, FeedContract, finished_text}
use Rattle.lines.specs.Prints.{Prints}
use Rattle.replay.specs.Chunking.{Stands, concat_chunks, FeedTrace, finish, next_chunk, feed, ChunkingIrrelevant}

-- what was written is the text
written-text : (text line : List ℕ) (written : ℕ) (line' : List ℕ) → Prints text line written line' → take written line' ≡ text
unfolding spliced
written-text text line written line' p = rw (p.size, p.bytes) (take-append_seam text (drop (0 + length text) line))

-- ---- what was found

-- the records that are submitted, one more or not
more_left : (edition : Edition) (entry : Entry) (entries : List Entry) (s : State)
    → submit_and_run_all (submitted_entries edition (entry ∷ entries)) s ≡ submit_and_run_all (submitted_entries edition entries) (record_after edition entry s)
unfolding submit_and_run_all scored
more_left First entry entries s = refl
more_left Second entry entries s = go (score_holds Second entry) refl
  where
    go : (b : Bool) → score_holds Second entry ≡ b → submit_and_run_all (scored (entry ∷ entries)) s ≡ submit_and_run_all (scored entries) (record_after Second entry s)
    go true e = rw e
    go false e = rw e

module _ (edition : Edition) where
  found-prints : (found : Found) (g : Stage) (bytes held rest : List ℕ) (s : State) → EndedIfBad found g
      → lines_from edition s (onto found held (file_in edition g bytes rest)) ≡ found_text edition found held s ++ lines_from edition (found_state edition found held s) (file_in edition g bytes rest)
  unfolding printed_from ending_line
  found-prints Nothing g bytes held rest s over = refl
  found-prints (OneRecord end) g bytes held rest s over = refl
  found-prints BadVersion g bytes held rest s over = rw over
  found-prints BadRecord g bytes held rest s over = rw over

  found-leaves : (found : Found) (held : List ℕ) (file : File) (s : State)
      → submit_and_run_all (submitted_entries edition (onto found held file).entries) s ≡ submit_and_run_all (submitted_entries edition file.entries) (found_state edition found held s)
  found-leaves Nothing held file s = refl
  found-leaves (OneRecord end) held file s = more_left edition (entry_in held end) file.entries s
  found-leaves BadVersion held file s = refl
  found-leaves BadRecord held file s = refl

-- ---- a step

module _ (engine : State) (seen text : List ℕ) (r : Replay) (held ring memory input : List ℕ) (t : Taken) (held' : List ℕ)
    (S : Stands engine seen text r held ring memory) (T : Takes r.edition r.reader held input t held') where
  abbrev edition : Edition
  edition = r.edition

  abbrev bytes : List ℕ
  bytes = take t.used input

  abbrev here : State
  here = state_of r ring memory

  abbrev next : State
  next = found_state edition t.found held' here

  abbrev printed : List ℕ
  printed = found_text edition t.found held' here

  step-prints : (rest : List ℕ) → lines_from edition engine (records edition ((seen ++ bytes) ++ rest)) ≡ (text ++ printed) ++ lines_from edition next (file_at edition t.reader held' rest)
  step-prints rest =
      ap (λ (xs : List ℕ). lines_from edition engine (records edition xs)) (append_assoc seen bytes rest)
      ∙ S.prints (bytes ++ rest)
      ∙ ap (λ (file : File). text ++ lines_from edition here file) (T.file rest)
      ∙ ap (λ (xs : List ℕ). text ++ xs) (found-prints edition t.found t.reader.stage (take t.reader.buffered held') held' rest here T.over)
      ∙ sym (append_assoc text printed (lines_from edition next (file_at edition t.reader held' rest)))

  step-leaves : (rest : List ℕ)
      → submit_and_run_all (submitted_entries edition (records edition ((seen ++ bytes) ++ rest)).entries) engine ≡ submit_and_run_all (submitted_entries edition (file_at edition t.reader held' rest).entries) next
  step-leaves rest =
      ap (λ (xs : List ℕ). submit_and_run_all (submitted_entries edition (records edition xs).entries) engine) (append_assoc seen bytes rest)
      ∙ S.leaves (bytes ++ rest)
      ∙ ap (λ (file : File). submit_and_run_all (submitted_entries edition file.entries) here) (T.file rest)
      ∙ found-leaves edition t.found held' (file_at edition t.reader held' rest) here

  step-stands : (f : Replay) (ring' memory' : List ℕ) → f.edition ≡ edition → f.reader ≡ t.reader → state_of f ring' memory' ≡ next
      → Stands engine (seen ++ bytes) (text ++ printed) f held' ring' memory'
  step-stands f ring' memory' same reader state = record {
    ready = rw (same, reader) T.ready;
    prints = λ rest.
        subst (λ (e : Edition). lines_from e engine (records e ((seen ++ bytes) ++ rest)) ≡ (text ++ printed) ++ lines_from e (state_of f ring' memory') (file_at e f.reader held' rest)) (sym same)
        (step-prints rest
        ∙ ap (λ (q : Reader). (text ++ printed) ++ lines_from edition next (file_at edition q held' rest)) (sym reader)
        ∙ ap (λ (s : State). (text ++ printed) ++ lines_from edition s (file_at edition f.reader held' rest)) (sym state));
    leaves = λ rest.
        subst (λ (e : Edition). submit_and_run_all (submitted_entries e (records e ((seen ++ bytes) ++ rest)).entries) engine ≡ submit_and_run_all (submitted_entries e (file_at e f.reader held' rest).entries) (state_of f ring' memory')) (sym same)
        (step-leaves rest
        ∙ ap (λ (q : Reader). submit_and_run_all (submitted_entries edition (file_at edition q held' rest).entries) next) (sym reader)
        ∙ ap (λ (s : State). submit_and_run_all (submitted_entries edition (file_at edition f.reader held' rest).entries) s) (sym state));
  }

state_by : (next : State) (e : EngineRecord) (ring memory : List ℕ) → e ≡ next.engine → ring ≡ next.ring → memory ≡ next.memory → mk_state e ring memory ≡ next
state_by next e ring memory ee er em = rw (ee, er, em)

-- a call
feeds : (engine : State) (seen text : List ℕ) (r : Replay) (held ring memory input line : List ℕ) (f : FeedResult) (held' ring' memory' line' : List ℕ)
    → FeedContract r held ring memory input line f held' ring' memory' line' → 128 ≤ length line → Stands engine seen text r held ring memory
    → Stands engine (seen ++ take f.used input) (text ++ take f.written line') f.replay held' ring' memory' × (1 ≤ length input → 1 ≤ f.used)
feeds engine seen text r held ring memory input line f held' ring' memory' line' F room S =
    let t : Taken = fed_step r held input line in
    let T = F.takes room S.ready in
    let print = written-text (found_text r.edition t.found held' (state_of r ring memory)) line f.written line' F.prints in
    let next : State = found_state r.edition t.found held' (state_of r ring memory) in (
      rw (F.used_is, print) (step-stands engine seen text r held ring memory input t held' S T f.replay ring' memory' F.edition_is F.reader_is (state_by next f.replay.engine ring' memory' F.engine_is F.ring_is F.memory_is)),
      λ some. rw F.used_is (T.some some),
    )

-- ---- the start and the end

starts : (edition : Edition) (held ring memory : List ℕ) → room_of edition ≤ length held → Stands (engine_opened edition ring memory) [] [] (at_start edition) held ring memory
starts edition held ring memory room =
    let state : engine_opened edition ring memory ≡ state_of (at_start edition) ring memory =
    sym (started_state edition ring memory) ∙ ap (λ (e : EngineRecord). mk_state e ring memory) (started_engine edition ring memory ∙ sym (starting_engine edition)) in
    record {
      ready = record { room = room; few = omega (arith, room-between edition); due = tt };
      prints = λ rest. ap (λ (s : State). lines_from edition s (records edition rest)) state;
      leaves = λ rest. ap (submit_and_run_all (submitted_entries edition (records edition rest).entries)) state;
    }

-- of no record nothing is submitted
none_left : (edition : Edition) (s : State) → submit_and_run_all (submitted_entries edition []) s ≡ s
unfolding submit_and_run_all scored
none_left First s = refl
none_left Second s = refl

module _ (engine : State) (seen text : List ℕ) (r : Replay) (held ring memory : List ℕ) (S : Stands engine seen text r held ring memory) where
  abbrev own : Edition
  own = r.edition

  -- the line of the ending is left
  end-prints : text ++ ending_line (ending_at r.reader.stage r.reader.buffered) ≡ lines_from own engine (records own seen)
  unfolding printed_from
  end-prints =
      let size : length (take r.reader.buffered held) ≡ r.reader.buffered = length-take-le r.reader.buffered held (omega (arith, S.ready.room, S.ready.few)) in
      ap (λ (n : ℕ). text ++ ending_line (ending_at r.reader.stage n)) (sym size)
      ∙ ap (λ (file : File). text ++ lines_from own (state_of r ring memory) file) (sym (file-ends own r.reader held S.ready))
      ∙ sym (S.prints [])
      ∙ ap (λ (xs : List ℕ). lines_from own engine (records own xs)) (append-nil seen)

  finishes : (line : List ℕ) (written : ℕ) (line' : List ℕ) → 128 ≤ length line → Prints (finished_text r line) line written line' → text ++ take written line' ≡ lines_from own engine (records own seen)
  finishes line written line' room prints =
      let all : finished_text r line ≡ ending_line (ending_at r.reader.stage r.reader.buffered) = rw (le-leb 128 (length line) room) in
      ap (λ (xs : List ℕ). text ++ xs) (written-text (finished_text r line) line written line' prints ∙ all) ∙ end-prints

  left : state_of r ring memory ≡ submit_and_run_all (submitted_entries own (records own seen).entries) engine
  left =
      sym (none_left own (state_of r ring memory))
      ∙ ap (λ (es : List Entry). submit_and_run_all (submitted_entries own es) (state_of r ring memory)) (sym (ends-here own r.reader held S.ready))
      ∙ sym (S.leaves [])
      ∙ ap (λ (xs : List ℕ). submit_and_run_all (submitted_entries own (records own xs).entries) engine) (append-nil seen)

-- ---- the calls, one after the other

cut_again : (seen input rest : List ℕ) (used : ℕ) → (seen ++ take used input) ++ (drop used input ++ rest) ≡ seen ++ (input ++ rest)
cut_again seen input rest used =
    append_assoc seen (take used input) (drop used input ++ rest)
    ∙ ap (λ (xs : List ℕ). seen ++ xs) (sym (append_assoc (take used input) (drop used input) rest) ∙ ap (λ (xs : List ℕ). xs ++ rest) (take-append-drop used input))

plays : {r : Replay} {held ring memory line : List ℕ} {pieces : List (List ℕ)} {output : List ℕ} → FeedTrace r held ring memory line pieces output
    → (engine : State) (seen text : List ℕ) → 128 ≤ length line → Stands engine seen text r held ring memory
    → text ++ output ≡ lines_from r.edition engine (records r.edition (seen ++ concat_chunks pieces))
unfolding concat_chunks
plays {r} {held} {ring} {memory} {line} (finish {written = w} {line' = l} prints) engine seen text room S =
    finishes engine seen text r held ring memory S line w l room prints ∙ ap (λ (xs : List ℕ). lines_from r.edition engine (records r.edition xs)) (sym (append-nil seen))
plays (next_chunk played) engine seen text room S = plays played engine seen text room S
plays {r} {held} {ring} {memory} {line} (feed {byte = b} {more = m} {pieces = ps} {output = o} {f = f} {held' = h'} {ring' = g'} {memory' = m'} {line' = l'} F same played) engine seen text room S =
    let next = (feeds engine seen text r held ring memory (b ∷ m) line f h' g' m' l' F room S).0 in
    let rest : List ℕ = drop f.used (b ∷ m) ++ concat_chunks ps in
    sym (append_assoc text (take f.written l') o)
    ∙ plays played engine (seen ++ take f.used (b ∷ m)) (text ++ take f.written l') (omega (arith, same)) next
    ∙ ap (λ (e : Edition). lines_from e engine (records e ((seen ++ take f.used (b ∷ m)) ++ rest))) F.edition_is
    ∙ ap (λ (xs : List ℕ). lines_from r.edition engine (records r.edition xs)) (cut_again seen (b ∷ m) (concat_chunks ps) f.used)

calls : (edition : Edition) (held line : List ℕ) (pieces : List (List ℕ)) (output : List ℕ) → room_of edition ≤ length held → 128 ≤ length line
    → FeedTrace (at_start edition) held (replicate 32768 0) (replicate 65536 0) line pieces output → output ≡ lines edition (records edition (concat_chunks pieces))
unfolding lines replay_start
calls edition held line pieces output a b played =
    let s : State = engine_opened edition (replicate 32768 0) (replicate 65536 0) in
    plays played s [] [] b (starts edition held (replicate 32768 0) (replicate 65536 0) a)

pub chunking : (edition : Edition) → ChunkingIrrelevant edition
chunking edition = record {
  calls = calls edition;
  starts = starts edition;
  feeds = feeds;
  finishes = λ engine seen text r held ring memory line written line' S room prints. finishes engine seen text r held ring memory S line written line' room prints;
  left = left;
}
