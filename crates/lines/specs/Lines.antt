-- The lines that a replay file prints (01, "Writer and replay"; 02, request 14: edition 2 "prints as the first does"), as bytes of ASCII.
use Rattle.std.specs.Prelude.{List, [], ◌∷◌, ◌++◌, Bool, true, false, cond, ℕ, replicate}
use Rattle.register.specs.declared.bank.Bank.{Bank}
use Rattle.register.specs.Bank.{reset_bank}
use Rattle.model.specs.Calls.{Setup, Call, opens, submit, run, CompletionStatus, Answer, opened, accepted, completed, ready, missing, done, refused}
use Rattle.claims.specs.Engine.{State, CallResult, perform_call, state_after, initial_state}
use Rattle.text.specs.Hex.{hex_word}
use Rattle.text.specs.Decimal.{decimal}
use Rattle.records.specs.declared.Edition.{Edition}
use Rattle.records.specs.Records.{Entry, FileEnd, whole, bad_version, bad_record, cut_record, File}
use Rattle.records.specs.Editions.{reset_rule_of, score_holds, submission}

-- ---- one line

-- a space, and what follows it
abbrev pub spaced : List ℕ → List ℕ
spaced text = 32 ∷ text

-- "desk, ticket, status in eight upper-case hex digits, fault, place", "ended by a line feed"
unfoldable pub completion_line : (client ticket : ℕ) → CompletionStatus → List ℕ
completion_line client ticket v =
    decimal client
    ++ (spaced (decimal ticket)
    ++ (spaced (hex_word v.status)
    ++ (spaced (decimal v.fault)
    ++ (spaced (decimal v.offset)
    ++ (10 ∷ [])))))

-- "A refused submit prints `0 - - 6 0` with its desk and number."
unfoldable pub refusal_line : (client number : ℕ) → List ℕ
refusal_line client number = decimal client ++ ((32 ∷ 45 ∷ 32 ∷ 45 ∷ 32 ∷ []) ++ (decimal number ++ (32 ∷ 48 ∷ 10 ∷ [])))

-- the line of what was answered last of a client's record: by run, or by a submit that was refused. Where run is refused, as it is with a
-- memory of another length, its number is reported as submit's is. Neither answers otherwise
unfoldable pub answer_line : (client : ℕ) → Answer → List ℕ
answer_line client (completed own ticket v) = completion_line own ticket v
answer_line client (refused number) = refusal_line client number
answer_line client (opened id) = []
answer_line client (accepted ticket) = []
answer_line client (ready count) = []
answer_line client (missing bytes) = []
answer_line client done = []

-- what is reported of a file's end: nothing, `bad version`, `bad record`, `cut record`
unfoldable pub ending_line : FileEnd → List ℕ
ending_line whole = []
ending_line bad_version = 98 ∷ 97 ∷ 100 ∷ 32 ∷ 118 ∷ 101 ∷ 114 ∷ 115 ∷ 105 ∷ 111 ∷ 110 ∷ 10 ∷ []
ending_line bad_record = 98 ∷ 97 ∷ 100 ∷ 32 ∷ 114 ∷ 101 ∷ 99 ∷ 111 ∷ 114 ∷ 100 ∷ 10 ∷ []
ending_line cut_record = 99 ∷ 117 ∷ 116 ∷ 32 ∷ 114 ∷ 101 ∷ 99 ∷ 111 ∷ 114 ∷ 100 ∷ 10 ∷ []

-- "A score word outside 0 to 1, or NaN, prints `bad score` for that record"
unfoldable pub bad_score_line : List ℕ
bad_score_line = 98 ∷ 97 ∷ 100 ∷ 32 ∷ 115 ∷ 99 ∷ 111 ∷ 114 ∷ 101 ∷ 10 ∷ []

-- ---- the records, one after another

abbrev pub is_accepted : Answer → Bool
is_accepted (accepted ticket) = true
is_accepted (refused number) = false
is_accepted (completed own ticket v) = false
is_accepted (opened id) = false
is_accepted (ready count) = false
is_accepted (missing bytes) = false
is_accepted done = false

-- "submits each record and, if accepted, runs it": what is answered last, and what is left
unfoldable pub submit_and_run : Entry → State → CallResult
submit_and_run entry s =
    let submitted : CallResult = perform_call (submit entry.client entry.batch) s in
    cond (is_accepted submitted.answer) (perform_call run submitted.after) submitted

-- "Each prints one line"
abbrev pub entry_line : Entry → State → List ℕ
entry_line entry s = answer_line entry.client (submit_and_run entry s).answer

-- of a record with a bad score nothing is submitted
abbrev pub record_line : Edition → Entry → State → List ℕ
record_line edition entry s = cond (score_holds edition entry) (entry_line (submission edition entry) s) bad_score_line

abbrev pub record_after : Edition → Entry → State → State
record_after edition entry s = cond (score_holds edition entry) (submit_and_run (submission edition entry) s).after s

unfoldable pub printed_from : Edition → State → List Entry → FileEnd → List ℕ
printed_from edition s [] ending = ending_line ending
printed_from edition s (entry ∷ entries) ending = record_line edition entry s ++ printed_from edition (record_after edition entry s) entries ending

-- what a file prints from a state of the engine on
abbrev pub lines_from : Edition → State → File → List ℕ
lines_from edition s file = printed_from edition s file.entries file.ending

-- ---- the start

-- "a 32,768-byte ring, 65,536 .. bytes of memory, 16,384 of them common", with the edition's reset rule
abbrev pub setup : Edition → Setup
setup edition = record { ring = 32768; memory = 65536; common = 16384; reset = reset_rule_of edition }

-- the registers at the start of every batch of a file
abbrev pub file_reset : Edition → Bank
file_reset edition = reset_bank (setup edition).reset

-- "four windows of 12,288", after common
abbrev pub opening : List Call
opening =
    opens (record { start = 16384; length = 12288 })
    ∷ opens (record { start = 28672; length = 12288 })
    ∷ opens (record { start = 40960; length = 12288 })
    ∷ opens (record { start = 53248; length = 12288 })
    ∷ []

-- set up and opened, with this ring and memory
unfoldable pub engine_opened : Edition → (ring memory : List ℕ) → State
engine_opened edition ring memory = state_after opening (initial_state (setup edition) ring memory)

-- the program's: all of both zero
unfoldable pub replay_start : Edition → State
replay_start edition = engine_opened edition (replicate 32768 0) (replicate 65536 0)

-- what a file prints
unfoldable pub lines : Edition → File → List ℕ
lines edition file = lines_from edition (replay_start edition) file
