-- The answers, a record at a time, and whatever the pieces of the file.
use mathlib.Core.Path.{◌≡◌, refl, sym, ap, subst, ◌∙◌}
use mathlib.Core.Bool.{Bool, true, false, cond, ◌||◌}
use mathlib.Core.Logic.{◌⊎◌, inl, inr}
use mathlib.Core.List.{List, [], ◌∷◌, ◌++◌, append-nil, append_assoc}
use Prim.Native.Nat.{ℕ, ◌+◌, ◌-◌, ◌%◌, ◌≤◌, ◌<◌}
use native.Mathlib.Nat.{mod-eq_of_lt}
use native.Mathlib.Omega.{arith}
use lib.ListN.{length, take, drop, length-drop}
use lib.Seq.{take_all, take-add}
use lib.Dec.{eqb, ltb}
use borrow.Author.Tests.{lt-ltb, le-ltb}
use Rattle.records.specs.declared.Edition.TheVariants.{First}
use Rattle.word.specs.Word.{words}
use Rattle.word.proofs.Tests.{split}
use Rattle.ring.specs.Segment.{batch_words}
use Rattle.lines.specs.Lines.{file_reset}
use Rattle.task_check.specs.declared.task.Bounds.{Bounds}
use Rattle.batch.specs.Batch.{decode_batch, tasks_drawn}
use Rattle.claims.specs.BatchSemantics.{bounds_of}
use Rattle.records.specs.declared.Stage.TheVariants.{Version}
use Rattle.records.specs.declared.Found.{Found}
use Rattle.records.specs.declared.Found.TheVariants.{Nothing, Record, BadVersion, BadRecord}
use Rattle.records.specs.declared.Taken.{Taken}
use Rattle.records.specs.Records.{Entry, File, records}
use Rattle.records.specs.Reading.{file_at, entry_in, onto, ReaderReady, Takes}
use Rattle.records.proofs.Onward.{ends-here}
use Rattle.lines.proofs.acceptance.Taken.{taken_facts, whole_words}
use Rattle.lines.specs.Answered.{record_refusal, replay_window, count_after}
use Rattle.std.specs.Prelude.{Option, Some}
use Rattle.provenance.specs.declared.Touch.{Touch}
use Rattle.provenance.specs.declared.Explanation.{Explanation}
use Rattle.inquiry.specs.declared.Question.{Question}
use Rattle.inquiry.specs.declared.Finding.{Finding}
use Rattle.inquiry.specs.declared.Inquiry.{Inquiry}
use Rattle.inquiry.specs.declared.FeedResult.{FeedResult}
use Rattle.provenance.specs.Drawn.{Drawn, numbered, drawn_by, drawn_from}
use Rattle.provenance.specs.Touched.{holds, touch_of, last_from, touched_by}
use Rattle.provenance.specs.Faulted.{explained, why_from, faulted_by}
use Rattle.provenance.specs.Answers.{answer_touched, answer_fault, touched_answer, fault_answer}
use Rattle.inquiry.specs.Inquiry.{finding_after, finding_from, nothing_yet, Answers, inquiry_answers, Stands, InquiryFeedContract, finding_next, finding_on}

-- ---- one record more

module _ (q : Question) (f : Finding) (entry : Entry) where
  abbrev size : ℕ
  size = length entry.batch

  pub after-refused : eqb (record_refusal entry) 0 ≡ false → record { records = f.records + 1; accepted = f.accepted; touched = f.touched; why = f.why } ≡ finding_after q f entry
  unfolding drawn_by last_from
  after-refused none =
      let same : f.accepted + 0 ≡ f.accepted = omega arith in
      rw (none, same)

  pub after-accepted : (bounds : Bounds) (last : Option Touch) (reason : Option Explanation) → eqb (record_refusal entry) 0 ≡ true → f.accepted ≤ 1024
      → bounds ≡ bounds_of (replay_window entry.client) 16384
      → last ≡ last_from f.touched q.address (numbered f.accepted 0 (tasks_drawn (decode_batch bounds (file_reset First) (batch_words entry.batch 0 size))))
      → reason ≡ cond (eqb f.accepted q.ticket) (explained (batch_words entry.batch 0 size) (decode_batch bounds (file_reset First) (batch_words entry.batch 0 size))) f.why
      → record { records = f.records + 1; accepted = f.accepted + 1; touched = last; why = reason } ≡ finding_after q f entry
  unfolding drawn_by
  after-accepted bounds last reason took few bounds-is last-is reason-is =
      let ws : batch_words entry.batch 0 size ≡ words entry.batch = whole_words entry.batch (taken_facts entry.client entry.batch took).1 in
      let ticket : f.accepted % 4294967296 ≡ f.accepted = mod-eq_of_lt (omega arith) in
      rw (took, ticket, last-is, reason-is, bounds-is, ws)

-- ---- what the records say

module _ (q : Question) where
  last-append : (found : Option Touch) (i : ℕ) (xs ys : List Drawn) → last_from found i (xs ++ ys) ≡ last_from (last_from found i xs) i ys
  unfolding last_from
  last-append found i [] ys = refl
  last-append found i (x ∷ xs) ys = last-append (cond (holds x.task.output i) (Some (touch_of x)) found) i xs ys

  found-touched : (f : Finding) (entries : List Entry) → (finding_from q f entries).touched ≡ last_from f.touched q.address (drawn_from f.accepted entries)
  unfolding finding_from drawn_from last_from
  found-touched f [] = refl
  found-touched f (entry ∷ entries) =
      found-touched (finding_after q f entry) entries
      ∙ sym (last-append f.touched q.address (drawn_by f.accepted entry) (drawn_from (count_after f.accepted entry) entries))

  found_why : (f : Finding) (entries : List Entry) → (finding_from q f entries).why ≡ why_from f.why f.accepted q.ticket entries
  unfolding finding_from why_from
  found_why f [] = refl
  found_why f (entry ∷ entries) = found_why (finding_after q f entry) entries

  found-records : (f : Finding) (entries : List Entry) → (finding_from q f entries).records ≡ f.records + length entries
  unfolding finding_from
  found-records f [] = omega arith
  found-records f (entry ∷ entries) = found-records (finding_after q f entry) entries ∙ omega arith

  -- so the answers of all records are those of the file
  pub answers-file : (file : File) → inquiry_answers q (finding_from q nothing_yet file.entries) ≡ record { touched = touched_answer file q.address; fault = fault_answer file q.ticket }
  unfolding inquiry_answers touched_by faulted_by
  answers-file file =
      let count : (finding_from q nothing_yet file.entries).records ≡ length file.entries = found-records nothing_yet file.entries ∙ omega arith in
      rw (count, found-touched nothing_yet file.entries, found_why nothing_yet file.entries)

  -- ---- over 1,024 records both questions are refused

  refused_all : (f g : Finding) → 1024 < f.records → 1024 < g.records → inquiry_answers q f ≡ inquiry_answers q g
  unfolding inquiry_answers
  refused_all f g h k = rw (lt-ltb 1024 f.records h, lt-ltb 1024 g.records k)

  -- so then one record more changes nothing
  pub over_already : (f : Finding) (entry : Entry) (entries : List Entry) → 1024 < f.records
      → inquiry_answers q (finding_from q f (entry ∷ entries)) ≡ inquiry_answers q (finding_from q f entries)
  over_already f entry entries h =
      refused_all (finding_from q f (entry ∷ entries)) (finding_from q f entries) (omega (arith, found-records f (entry ∷ entries))) (omega (arith, found-records f entries))

  -- ---- the inquiry

  count_most : (b : Bool) (k n : ℕ) → k ≤ n → k + cond b 1 0 ≤ n + 1
  count_most true k n h = omega arith
  count_most false k n h = omega arith

  module _ (f : Finding) (counts : f.accepted ≤ f.records) where
    -- a record more, looked at or not
    next-counts : (entry : Entry) → (finding_next q f entry).accepted ≤ (finding_next q f entry).records
    next-counts entry = go (ltb 1024 f.records || ltb 1024 f.accepted)
      where
        go : (b : Bool) → let g : Finding = cond b f (finding_after q f entry) in g.accepted ≤ g.records
        go true = counts
        go false = count_most (eqb (record_refusal entry) 0) f.accepted f.records counts

    next-answers : (entry : Entry) (entries : List Entry) → inquiry_answers q (finding_from q f (entry ∷ entries)) ≡ inquiry_answers q (finding_from q (finding_next q f entry) entries)
    unfolding finding_from
    next-answers entry entries = go (split 1024 f.records)
      where
        go : (1024 < f.records) ⊎ (f.records ≤ 1024) → inquiry_answers q (finding_from q f (entry ∷ entries)) ≡ inquiry_answers q (finding_from q (finding_next q f entry) entries)
        go (inl h) = rw (lt-ltb 1024 f.records h) (over_already f entry entries h)
        go (inr h) = rw (le-ltb 1024 f.records h, le-ltb 1024 f.accepted (omega arith))

    on-counts : (found : Found) (held : List ℕ) → (finding_on q f found held).accepted ≤ (finding_on q f found held).records
    on-counts Nothing held = counts
    on-counts (Record end) held = next-counts (entry_in held end)
    on-counts BadVersion held = counts
    on-counts BadRecord held = counts

    on-answers : (found : Found) (held : List ℕ) (rest : File) → inquiry_answers q (finding_from q f (onto found held rest).entries) ≡ inquiry_answers q (finding_from q (finding_on q f found held) rest.entries)
    on-answers Nothing held rest = refl
    on-answers (Record end) held rest = next-answers (entry_in held end) rest.entries
    on-answers BadVersion held rest = refl
    on-answers BadRecord held rest = refl

  pub feeds_by : (seen held input held' : List ℕ) (s : Inquiry) (t : Taken) (fed : FeedResult) (g : Finding) → g ≡ finding_on q s.finding t.found held'
      → fed ≡ record { inquiry = record { reader = t.reader; finding = g }; used = t.used }
      → (ReaderReady First s.reader held → Takes First s.reader held input t held') → Stands q seen s held → InquiryFeedContract q seen input fed held'
  feeds_by seen held input held' s t fed g g-is fed_is takes S =
      let T = takes S.ready in
      let bytes : List ℕ = take t.used input in
      rw (fed_is, g-is) (record {
        stands = record {
          ready = T.ready;
          counts = on-counts s.finding S.counts t.found held';
          answers = λ rest.
              ap (λ (xs : List ℕ). inquiry_answers q (finding_from q nothing_yet (records First xs).entries)) (append_assoc seen bytes rest)
              ∙ S.answers (bytes ++ rest)
              ∙ ap (λ (file : File). inquiry_answers q (finding_from q s.finding file.entries)) (T.file rest)
              ∙ on-answers s.finding S.counts t.found held' (file_at First t.reader held' rest);
        };
        some = T.some;
      })

  pub starts_by : (held : List ℕ) (s : Inquiry) → s ≡ record { reader = record { stage = Version; buffered = 0 }; finding = nothing_yet } → 32773 ≤ length held → Stands q [] s held
  starts_by held s is room = rw is (record { ready = record { room = room; few = omega arith; due = tt }; counts = omega arith; answers = λ rest. refl })

  -- at the end no byte follows
  pub ends_by : (seen held : List ℕ) (s : Inquiry) → Stands q seen s held
      → inquiry_answers q s.finding ≡ record { touched = touched_answer (records First seen) q.address; fault = fault_answer (records First seen) q.ticket }
  unfolding finding_from
  ends_by seen held s S =
      ap (λ (es : List Entry). inquiry_answers q (finding_from q s.finding es)) (sym (ends-here First s.reader held S.ready))
      ∙ sym (S.answers [])
      ∙ ap (λ (xs : List ℕ). inquiry_answers q (finding_from q nothing_yet (records First xs).entries)) (append-nil seen)
      ∙ answers-file (records First seen)

-- ---- the answers, with their refusals

module _ (q : Question) (s : Inquiry) (seen held : List ℕ) (S : Stands q seen s held) where
  pub touched-answered : answer_touched s.finding.records q.address s.finding.touched ≡ touched_answer (records First seen) q.address
  unfolding inquiry_answers
  touched-answered = ap (λ (a : Answers). a.touched) (ends_by q seen held s S)

  pub fault-answered : answer_fault s.finding.records s.finding.why ≡ fault_answer (records First seen) q.ticket
  unfolding inquiry_answers
  fault-answered = ap (λ (a : Answers). a.fault) (ends_by q seen held s S)

-- ---- a piece

module _ (q : Question) (seen piece : List ℕ) (used : ℕ) (fed : FeedResult) (held' : List ℕ) where
  -- what is left of it
  abbrev left : List ℕ
  left = take (length piece - used) (drop used piece)

  left_is : left ≡ drop used piece
  left_is = take_all (length piece - used) (drop used piece) (omega (arith, length-drop used piece))

  pub piece_again : InquiryFeedContract q (seen ++ take used piece) left fed held' → Stands q (seen ++ take (used + fed.used) piece) fed.inquiry held'
  piece_again F =
      let bytes : (seen ++ take used piece) ++ take fed.used left ≡ seen ++ take (used + fed.used) piece =
      append_assoc seen (take used piece) (take fed.used left)
      ∙ ap (λ (xs : List ℕ). seen ++ (take used piece ++ take fed.used xs)) left_is
      ∙ ap (λ (xs : List ℕ). seen ++ xs) (sym (take-add used fed.used piece)) in
      subst (λ (xs : List ℕ). Stands q xs fed.inquiry held') bytes F.stands

  pub piece-some : used < length piece → InquiryFeedContract q (seen ++ take used piece) left fed held' → fed.used ≡ 0 → ⊥
  piece-some more F none = let some : 1 ≤ fed.used = F.some (rw left_is (omega (arith, length-drop used piece))) in omega arith

pub piece-none : (q : Question) (seen piece : List ℕ) (s : Inquiry) (held : List ℕ) → Stands q seen s held → Stands q (seen ++ take 0 piece) s held
piece-none q seen piece s held S = rw (append-nil seen) S

pub piece-all : (q : Question) (seen piece : List ℕ) (used : ℕ) (s : Inquiry) (held : List ℕ) → length piece ≤ used → Stands q (seen ++ take used piece) s held → Stands q (seen ++ piece) s held
piece-all q seen piece used s held h S = rw (take_all used piece h) at S
