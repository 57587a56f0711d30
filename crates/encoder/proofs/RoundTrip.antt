-- The round trip (demand 2: what the encoder writes reads back as the same task), over the definition of the batch reader: from any
-- bank, within any bounds, for all fields that the encoder takes, in either form.
use mathlib.Core.Path.{◌≡◌, refl, sym, ap, ◌∙◌}
use mathlib.Core.Bool.{true}
use mathlib.Core.List.{List, [], ◌∷◌, ◌++◌, append-nil}
use Prim.Native.Nat.{ℕ, ◌+◌}
use native.Mathlib.Omega.{arith}
use lib.ListN.{length}
use Rattle.word.specs.Word.{words}
use Rattle.word.proofs.Tests.{and-true}
use Rattle.word.proofs.Words.{Below32, words_back}
use Rattle.pixel.specs.declared.gradient.Steps.{Steps}
use Rattle.register.specs.Bank.{reset_steps}
use Rattle.register.specs.declared.bank.Bank.{Bank}
use Rattle.task_check.specs.declared.task.Bounds.{Bounds}
use Rattle.task_check.specs.Rules.{check_task}
use Rattle.batch.specs.Batch.{DecodedBatch, finished, between_tasks, after_task_check, decode_from, decode_batch}
use Rattle.batch.specs.Marks.{task_end_count_from, task_end_count}
use Rattle.encoder.specs.declared.fields.Fields.{Fields}
use Rattle.encoder.specs.Fields.{allowed, steps_allowed}
use Rattle.encoder.specs.Registers.{surface_registers, source_control, destination_control, blending_word, bank_of}
use Rattle.encoder.specs.Words.{task_words, shaded_words}
use Rattle.encoder.specs.Forms.{Form, first_form, second_form, fields_in, form_allowed, form_words}
use Rattle.encoder.specs.Encoder.{task_bytes}
use Rattle.encoder.specs.RoundTrip.{task_with, steps_after, all_tasks, all_words, all_bytes, AllAllowed, Fits32Bits, AllFit32Bits, AllPassTaskCheck, end_header, bank_with, expected_decoding, bank_after}
use Rattle.encoder.proofs.Allowed.{parts, surface_fits, source_fits, destination-fits, blending_fits, steps_fit}
use Rattle.encoder.proofs.Groups.{StepsTaken, task-read, shaded_read}
use Rattle.encoder.proofs.TaskFields.{all-taken, steps-taken, task-back}

-- ---- words

-- the fields of either form are allowed
pub fields_allowed : (w : Form) → form_allowed w ≡ true → allowed (fields_in w) ≡ true
fields_allowed (first_form f) ok = ok
fields_allowed (second_form f steps) ok = (and-true (allowed f) (steps_allowed steps) ok).0

-- the steps of a bank are in no word of the first form
any_steps : (steps : Steps) (f : Fields) → task_words (bank_of reset_steps f) ≡ task_words (bank_of steps f)
unfolding task_words bank_of
any_steps steps f = refl

kept-steps : (steps : Steps) (f : Fields) → (bank_of steps f).steps ≡ steps
unfolding bank_of
kept-steps steps f = refl

-- one task, and then the reading goes on with the rest of the words
pub goes_on : (bounds : Bounds) (bank : Bank) (k : ℕ) (w : Form) (rest : List ℕ) → form_allowed w ≡ true
    → decode_from bounds bank k between_tasks (form_words w ++ rest)
    ≡ after_task_check (check_task bounds (task_with (steps_after bank.steps w) (fields_in w))) (bank_with bank w) (k + end_header w) (decode_from bounds (bank_with bank w) (k + (end_header w + 2)) between_tasks rest)
goes_on bounds bank k (first_form f) rest ok =
    let steps : Steps = bank.steps in
    ap (λ (l : List ℕ). decode_from bounds bank k between_tasks (l ++ rest)) (any_steps steps f)
    ∙ (rw (task-back steps f ok) at (task-read bounds bank (bank_of steps f) k rest (all-taken steps f ok) (kept-steps steps f)))
goes_on bounds bank k (second_form f steps) rest ok =
    let both = and-true (allowed f) (steps_allowed steps) ok in
    let taken : StepsTaken (bank_of steps f).steps = rw (kept-steps steps f) (steps-taken steps both.1) in
    rw (task-back steps f both.0) at (shaded_read bounds bank (bank_of steps f) k rest (all-taken steps f both.0) taken)

-- any tasks, one after the other
tasks-from : (bounds : Bounds) (bank : Bank) (k : ℕ) (ws : List Form) → AllAllowed ws → decode_from bounds bank k between_tasks (all_words ws) ≡ expected_decoding bounds bank k ws
unfolding all_words expected_decoding decode_from
tasks-from bounds bank k [] ok = refl
tasks-from bounds bank k (w ∷ ws) ok =
    goes_on bounds bank k w (all_words ws) ok.0
    ∙ ap (λ (r : DecodedBatch). after_task_check (check_task bounds (task_with (steps_after bank.steps w) (fields_in w))) (bank_with bank w) (k + end_header w) r)
    (tasks-from bounds (bank_with bank w) (k + (end_header w + 2)) ws ok.1)

words-read-back : (bounds : Bounds) (bank : Bank) (ws : List Form) → AllAllowed ws → decode_batch bounds bank (all_words ws) ≡ expected_decoding bounds bank 0 ws
words-read-back bounds bank ws ok = tasks-from bounds bank 0 ws ok

-- a task alone
pub reads-back-one : (bounds : Bounds) (bank : Bank) (w : Form) → form_allowed w ≡ true → decode_batch bounds bank (form_words w) ≡ expected_decoding bounds bank 0 (w ∷ [])
unfolding all_words
reads-back-one bounds bank w ok = ap (λ (l : List ℕ). decode_batch bounds bank l) (sym (append-nil (form_words w))) ∙ words-read-back bounds bank (w ∷ []) (ok, tt)

-- where 25 to 28 do not come: those tasks, in order, and the batch is finished
pub fine_from : (bounds : Bounds) (bank : Bank) (k : ℕ) (ws : List Form) → AllAllowed ws → AllPassTaskCheck bounds bank.steps ws
    → expected_decoding bounds bank k ws ≡ record { tasks = all_tasks bank.steps ws; ending = finished; bank = bank_after bank ws }
unfolding expected_decoding all_tasks bank_after bank_of
fine_from bounds bank k [] ok fine = refl
fine_from bounds bank k (w ∷ ws) ok fine =
    rw (fine.0, task-back (steps_after bank.steps w) (fields_in w) (fields_allowed w ok.0), fine_from bounds (bank_with bank w) (k + (end_header w + 2)) ws ok.1 fine.1)

-- ---- exactly one task-end mark each

last-of_six : (n : ℕ) → 0 + (0 + (0 + (0 + (0 + (1 + n))))) ≡ 1 + n
last-of_six n = omega arith

last-of_seven : (n : ℕ) → 0 + (0 + (0 + (0 + (0 + (0 + (1 + n)))))) ≡ 1 + n
last-of_seven n = omega arith

mark_each : (w : Form) (rest : List ℕ) → task_end_count (form_words w ++ rest) ≡ 1 + task_end_count rest
unfolding task_end_count_from task_words shaded_words
mark_each (first_form f) rest = last-of_six (task_end_count rest)
mark_each (second_form f steps) rest = last-of_seven (task_end_count rest)

pub one_mark-each : (ws : List Form) → task_end_count (all_words ws) ≡ length ws
unfolding all_words task_end_count_from
one_mark-each [] = refl
one_mark-each (w ∷ ws) = omega (arith, mark_each w (all_words ws), one_mark-each ws)

-- ---- bytes

first_below : (f : Fields) → allowed f ≡ true → Fits32Bits f → Below32 (task_words (bank_of reset_steps f))
unfolding task_words bank_of surface_registers source_control destination_control blending_word
first_below f ok plain =
    let p = parts f ok in
    let s = source_fits f.source p.source in
    let d = destination-fits f.destination p.destination in
    let o = surface_fits f.output p.output in
    let b = blending_fits f.blending p.blending in
    (omega arith, (omega arith, (omega arith, (omega arith, (plain.colour, (plain.source, (omega arith, (omega arith, (omega arith, (omega arith, (omega arith, (plain.destination, (omega arith, (omega arith, (omega arith, (omega arith, (omega arith, (omega arith, (omega arith, (plain.output, tt))))))))))))))))))))

second_below : (f : Fields) (steps : Steps) → allowed f ≡ true → steps_allowed steps ≡ true → Fits32Bits f → Below32 (shaded_words (bank_of steps f))
unfolding shaded_words bank_of surface_registers source_control destination_control blending_word
second_below f steps ok fit plain =
    let p = parts f ok in
    let s = source_fits f.source p.source in
    let d = destination-fits f.destination p.destination in
    let o = surface_fits f.output p.output in
    let b = blending_fits f.blending p.blending in
    let g = steps_fit steps fit in
    (omega arith, (omega arith, (omega arith, (omega arith, (plain.colour, (plain.source, (omega arith, (omega arith, (omega arith, (omega arith, (omega arith, (omega arith, (omega arith, (omega arith, (omega arith, (omega arith, (plain.destination, (omega arith, (omega arith, (omega arith, (omega arith, (omega arith, (omega arith, (omega arith, (plain.output, tt)))))))))))))))))))))))))

below : (w : Form) → form_allowed w ≡ true → Fits32Bits (fields_in w) → Below32 (form_words w)
below (first_form f) ok plain = first_below f ok plain
below (second_form f steps) ok plain = let both = and-true (allowed f) (steps_allowed steps) ok in second_below f steps both.0 both.1 plain

-- the bytes are the words, and so on for any tasks
pub bytes_back : (w : Form) (rest : List ℕ) → form_allowed w ≡ true → Fits32Bits (fields_in w) → words (task_bytes w ++ rest) ≡ form_words w ++ words rest
unfolding task_bytes
bytes_back w rest ok plain = words_back (form_words w) rest (below w ok plain)

pub all-bytes-back : (ws : List Form) → AllAllowed ws → AllFit32Bits ws → words (all_bytes ws) ≡ all_words ws
unfolding all_bytes all_words words
all-bytes-back [] ok plain = refl
all-bytes-back (w ∷ ws) ok plain =
    bytes_back w (all_bytes ws) ok.0 plain.0 ∙ ap (λ (l : List ℕ). form_words w ++ l) (all-bytes-back ws ok.1 plain.1)

pub bytes-read-back : (bounds : Bounds) (bank : Bank) (ws : List Form) → AllAllowed ws → AllFit32Bits ws → decode_batch bounds bank (words (all_bytes ws)) ≡ expected_decoding bounds bank 0 ws
bytes-read-back bounds bank ws ok plain = ap (decode_batch bounds bank) (all-bytes-back ws ok plain) ∙ words-read-back bounds bank ws ok
