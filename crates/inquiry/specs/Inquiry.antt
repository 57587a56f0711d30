-- A file handed over in pieces: whatever its pieces, the answers are those of `provenance/specs/Answers` ("The session is read again for the answer and not
-- kept", 02, request 10).
use Rattle.std.specs.Prelude.{◌≡◌, List, [], ◌∷◌, ◌++◌, cond, ◌&&◌, ◌||◌, ℕ, ◌+◌, ◌≤◌, length, take, eqb, ltb, Option, None, Result}
use Rattle.records.specs.declared.Edition.TheVariants.{First}
use Rattle.word.specs.Word.{words}
use Rattle.records.specs.Records.{Entry, records}
use Rattle.records.specs.declared.Found.{Found}
use Rattle.records.specs.declared.Found.TheVariants.{Nothing, Record, BadVersion, BadRecord}
use Rattle.records.specs.Reading.{file_at, entry_in, ReaderReady}
use Rattle.lines.specs.Answered.{record_refusal, ticket_of_count, count_after}
use Rattle.provenance.specs.declared.Touch.{Touch}
use Rattle.provenance.specs.declared.Explanation.{Explanation}
use Rattle.provenance.specs.declared.Refusal.{Refusal}
use Rattle.provenance.specs.Drawn.{reading_of, drawn_by}
use Rattle.provenance.specs.Touched.{last_from}
use Rattle.provenance.specs.Faulted.{explained}
use Rattle.inquiry.specs.declared.Question.{Question}
use Rattle.inquiry.specs.declared.Finding.{Finding}
use Rattle.inquiry.specs.declared.Inquiry.{Inquiry}
use Rattle.inquiry.specs.declared.FeedResult.{FeedResult}
use Rattle.provenance.specs.Answers.{answer_touched, answer_fault}

-- ---- a record at a time

abbrev pub nothing_yet : Finding
nothing_yet = record { records = 0; accepted = 0; touched = None; why = None }

abbrev pub finding_after : Question → Finding → Entry → Finding
finding_after q f entry = record {
  records = f.records + 1;
  accepted = count_after f.accepted entry;
  touched = last_from f.touched q.address (drawn_by f.accepted entry);
  why = cond (eqb (record_refusal entry) 0 && eqb (ticket_of_count f.accepted) q.ticket) (explained (words entry.batch) (reading_of entry)) f.why;
}

unfoldable pub finding_from : Question → Finding → List Entry → Finding
finding_from q f [] = f
finding_from q f (entry ∷ entries) = finding_from q (finding_after q f entry) entries

-- both answers of a finding
pub record Answers : Type 0 where
  pub touched : Result (Option Touch) Refusal
  pub fault : Result Explanation Refusal

unfoldable pub inquiry_answers : Question → Finding → Answers
inquiry_answers q f = record { touched = answer_touched f.records q.address f.touched; fault = answer_fault f.records f.why }

-- ---- a piece at a time

-- after these bytes of a file: whatever follows them, the answers of the whole file are those from here on
pub record Stands (q : Question) (seen : List ℕ) (s : Inquiry) (held : List ℕ) : Type 0 where
  pub ready : ReaderReady First s.reader held
  pub counts : s.finding.accepted ≤ s.finding.records
  pub answers : (rest : List ℕ)
      → inquiry_answers q (finding_from q nothing_yet (records First (seen ++ rest)).entries) ≡ inquiry_answers q (finding_from q s.finding (file_at First s.reader held rest).entries)

-- after some input more, and it uses a byte of it if there is one
pub record InquiryFeedContract (q : Question) (seen : List ℕ) (input : List ℕ) (f : FeedResult) (held : List ℕ) : Type 0 where
  pub stands : Stands q (seen ++ take f.used input) f.inquiry held
  pub some : 1 ≤ length input → 1 ≤ f.used

-- ---- the finding after what a step of the reading found: contract of inner functions

-- Internal: over 1,024 records nothing is looked at
abbrev pub finding_next : Question → Finding → Entry → Finding
finding_next q f entry = cond (ltb 1024 f.records || ltb 1024 f.accepted) f (finding_after q f entry)

-- Internal
abbrev pub finding_on : Question → Finding → Found → (held : List ℕ) → Finding
finding_on q f Nothing held = f
finding_on q f (Record end) held = finding_next q f (entry_in held end)
finding_on q f BadVersion held = f
finding_on q f BadRecord held = f
