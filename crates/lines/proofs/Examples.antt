-- What the definitions say of small files and of the paper's lines, computed.
use mathlib.Core.Path.{◌≡◌, refl}
use mathlib.Core.List.{[], ◌∷◌}
use lib.Ieee.{le, of_bits}
use Rattle.word.specs.Word.{byte_of, be32_at, be_bytes}
use Rattle.engine_record.specs.Slots.{ready_batches, sum_over}
use Rattle.engine_record.specs.Tickets.{tickets_consecutive, in_ticket_order}
use Rattle.engine_record.specs.Clients.{windows_of, lowest_closed, overlaps_any, windows_valid, pending_counts_match}
use Rattle.engine_record.specs.Rules.{end_to_end, lengths_allowed, clients_open, valid}
use Rattle.queue.specs.Answers.{answer_unless_refused}
use Rattle.queue.specs.Refusals.{first_refusal}
use Rattle.queue.specs.Calls.{unless_refused, initial_record, set_up_result, with_client, open_result}
use Rattle.model.specs.Calls.{opened}
use Rattle.claims.specs.Engine.{State, answer_or_refusal, perform_call, answers_of, initial_state}
use Rattle.text.specs.Hex.{hex_byte, hex_bytes, hex_word}
use Rattle.text.specs.Decimal.{digits_in, decimal}
use Rattle.records.specs.Records.{whole, bad_version, bad_record, cut_record, file_ends, cons_entry, records_from, records}
use Rattle.records.specs.declared.Edition.TheVariants.{First, Second}
use Rattle.score.specs.Coverage.{is_score}
use Rattle.score.specs.ScoreWord.{is_score_word}
use Rattle.records.specs.Editions.{scored, submitted_entries}
use Rattle.lines.specs.Lines.{completion_line, refusal_line, bad_score_line, record_line, record_after, setup, opening}

-- `0 0 00010001 0 0`
pub drawn : completion_line 0 0 (record { status = 0x00010001; fault = 0; offset = 0 })
    ≡ 48 ∷ 32 ∷ 48 ∷ 32 ∷ 48 ∷ 48 ∷ 48 ∷ 49 ∷ 48 ∷ 48 ∷ 48 ∷ 49 ∷ 32 ∷ 48 ∷ 32 ∷ 48 ∷ 10 ∷ []
unfolding completion_line digits_in decimal byte_of be_bytes hex_byte hex_bytes hex_word
drawn = refl

-- `0 0 00000002 27 72`
pub faulty : completion_line 0 0 (record { status = 0x00000002; fault = 27; offset = 72 })
    ≡ 48 ∷ 32 ∷ 48 ∷ 32 ∷ 48 ∷ 48 ∷ 48 ∷ 48 ∷ 48 ∷ 48 ∷ 48 ∷ 50 ∷ 32 ∷ 50 ∷ 55 ∷ 32 ∷ 55 ∷ 50 ∷ 10 ∷ []
unfolding completion_line digits_in decimal byte_of be_bytes hex_byte hex_bytes hex_word
faulty = refl

-- digits above 9 are in upper case: `1AF`
pub upper : hex_word 0x000001AF ≡ 48 ∷ 48 ∷ 48 ∷ 48 ∷ 48 ∷ 49 ∷ 65 ∷ 70 ∷ []
unfolding byte_of be_bytes hex_byte hex_bytes hex_word
upper = refl

-- `0 - - 6 0`
pub refused : refusal_line 0 6 ≡ 48 ∷ 32 ∷ 45 ∷ 32 ∷ 45 ∷ 32 ∷ 54 ∷ 32 ∷ 48 ∷ 10 ∷ []
unfolding refusal_line digits_in decimal
refused = refl

-- an empty file; another version; the version byte alone
pub empty : records First [] ≡ file_ends bad_version
unfolding records
empty = refl

pub other-version : records First (2 ∷ []) ≡ file_ends bad_version
unfolding records
other-version = refl

pub version-alone : records First (1 ∷ []) ≡ file_ends whole
unfolding records records_from
version-alone = refl

-- one record, of client 3 and one byte
pub one : records First (1 ∷ 0 ∷ 0 ∷ 0 ∷ 2 ∷ 3 ∷ 9 ∷ []) ≡ cons_entry (record { client = 3; batch = 9 ∷ [] }) (file_ends whole)
unfolding records records_from be32_at
one = refl

-- an end inside a length, and inside a record
pub cut_length : records First (1 ∷ 0 ∷ 0 ∷ 0 ∷ []) ≡ file_ends cut_record
unfolding records records_from
cut_length = refl

pub cut_body : records First (1 ∷ 0 ∷ 0 ∷ 0 ∷ 2 ∷ 3 ∷ []) ≡ file_ends cut_record
unfolding records records_from be32_at
cut_body = refl

-- a length of 0, and one of 32,770: an invalid length is reported even if the body is missing; 32,769 is allowed
pub no_length : records First (1 ∷ 0 ∷ 0 ∷ 0 ∷ 0 ∷ []) ≡ file_ends bad_record
unfolding records records_from be32_at
no_length = refl

pub long : records First (1 ∷ 0 ∷ 0 ∷ 128 ∷ 2 ∷ []) ≡ file_ends bad_record
unfolding records records_from be32_at
long = refl

pub longest : records First (1 ∷ 0 ∷ 0 ∷ 128 ∷ 1 ∷ []) ≡ file_ends cut_record
unfolding records records_from be32_at
longest = refl

-- set up is accepted, and the four windows are opened
pub opens-four : answers_of opening (initial_state (setup First) [] []) ≡ opened 0 ∷ opened 1 ∷ opened 2 ∷ opened 3 ∷ []
unfolding answers_of perform_call answer_or_refusal set_up_result open_result initial_record with_client unless_refused first_refusal answer_unless_refused valid windows_of lowest_closed overlaps_any windows_valid pending_counts_match end_to_end lengths_allowed clients_open tickets_consecutive in_ticket_order ready_batches sum_over
opens-four = refl

-- ---- edition 2

-- version 1 is a bad one there
pub second-version : records Second (1 ∷ []) ≡ file_ends bad_version
unfolding records
second-version = refl

-- a length of 4, and one of 32,774; 32,773 is allowed
pub second_short : records Second (2 ∷ 0 ∷ 0 ∷ 0 ∷ 4 ∷ []) ≡ file_ends bad_record
unfolding records records_from be32_at
second_short = refl

pub second_long : records Second (2 ∷ 0 ∷ 0 ∷ 128 ∷ 6 ∷ []) ≡ file_ends bad_record
unfolding records records_from be32_at
second_long = refl

pub second_longest : records Second (2 ∷ 0 ∷ 0 ∷ 128 ∷ 5 ∷ []) ≡ file_ends cut_record
unfolding records records_from be32_at
second_longest = refl

-- an end inside the score
pub second_cut : records Second (2 ∷ 0 ∷ 0 ∷ 0 ∷ 5 ∷ 3 ∷ 63 ∷ []) ≡ file_ends cut_record
unfolding records records_from be32_at
second_cut = refl

-- one record, of client 3, with the bits of 0.5 and one byte; its byte is submitted
pub second-one : records Second (2 ∷ 0 ∷ 0 ∷ 0 ∷ 6 ∷ 3 ∷ 63 ∷ 0 ∷ 0 ∷ 0 ∷ 9 ∷ []) ≡ cons_entry (record { client = 3; batch = 63 ∷ 0 ∷ 0 ∷ 0 ∷ 9 ∷ [] }) (file_ends whole)
unfolding records records_from be32_at
second-one = refl

pub second-submitted : submitted_entries Second (record { client = 3; batch = 63 ∷ 0 ∷ 0 ∷ 0 ∷ 9 ∷ [] } ∷ []) ≡ record { client = 3; batch = 9 ∷ [] } ∷ []
unfolding scored is_score_word is_score be32_at le of_bits
second-submitted = refl

-- 2.0 is no score: the record's line says so, and nothing is submitted
pub second-bad_score : (s : State) → record_line Second (record { client = 3; batch = 64 ∷ 0 ∷ 0 ∷ 0 ∷ 9 ∷ [] }) s ≡ bad_score_line
unfolding is_score_word is_score be32_at le of_bits
second-bad_score s = refl

pub second-bad-kept : (s : State) → record_after Second (record { client = 3; batch = 64 ∷ 0 ∷ 0 ∷ 0 ∷ 9 ∷ [] }) s ≡ s
unfolding is_score_word is_score be32_at le of_bits
second-bad-kept s = refl
