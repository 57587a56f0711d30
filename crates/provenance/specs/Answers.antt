-- Both answers of a file and their refusals (02, request 10: "Refusals: 16, address outside memory; 17, more than 1,024 records; 29, no faulted
-- batch has that ticket; in that order"). "Only records before the first bad or cut one count; under a bad version, or in an empty file, there
-- are none": these are the entries of a file (crate records). Refused records count among the 1,024 too.
use Rattle.std.specs.Prelude.{cond, ℕ, ltb, leb, length, Option, Some, None, Result, Ok, Err}
use Rattle.records.specs.Records.{File}
use Rattle.provenance.specs.declared.Touch.{Touch}
use Rattle.provenance.specs.declared.Explanation.{Explanation}
use Rattle.provenance.specs.Touched.{touched_by}
use Rattle.provenance.specs.Faulted.{faulted_by}
use Rattle.provenance.specs.declared.Refusal.{Refusal}
use Rattle.provenance.specs.declared.Refusal.TheVariants.{OutsideMemory, TooManyRecords, NotFaulted}

abbrev pub refusal_number : Refusal → ℕ
refusal_number OutsideMemory = 16
refusal_number TooManyRecords = 17
refusal_number NotFaulted = 29

-- which task drew a byte, of so many records; memory is the replay's, of 65,536 bytes
abbrev pub answer_touched : (records address : ℕ) → Option Touch → Result (Option Touch) Refusal
answer_touched records address touched =
    cond (leb 65536 address) (Err OutsideMemory)
    (cond (ltb 1024 records) (Err TooManyRecords)
    (Ok touched))

-- why a batch faulted: 29 if its ticket was never given, and if it is faultless
abbrev pub answer_why : Option Explanation → Result Explanation Refusal
answer_why None = Err NotFaulted
answer_why (Some explanation) = Ok explanation

abbrev pub answer_fault : (records : ℕ) → Option Explanation → Result Explanation Refusal
answer_fault records why = cond (ltb 1024 records) (Err TooManyRecords) (answer_why why)

abbrev pub touched_answer : File → (address : ℕ) → Result (Option Touch) Refusal
touched_answer file address = answer_touched (length file.entries) address (touched_by file.entries address)

abbrev pub fault_answer : File → (ticket : ℕ) → Result Explanation Refusal
fault_answer file ticket = answer_fault (length file.entries) (faulted_by file.entries ticket)
