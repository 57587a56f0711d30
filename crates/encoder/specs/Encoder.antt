-- What the encoder (the paper's writer) answers, and the buffer after it (01, the table of refusals and "Writer and replay"; 02, request 3).
use Rattle.std.specs.Prelude.{ℕ, ◌*◌, cond, List, length, ltb, Result, Ok, Err, ⊤}
use Rattle.word.specs.Word.{words_bytes}
use Rattle.word.specs.Splice.{spliced}
use Rattle.encoder.specs.declared.EncodeError.{EncodeError}
use Rattle.encoder.specs.declared.EncodeError.TheVariants.{Forbidden, ShortBuffer}
use Rattle.encoder.specs.Forms.{Form, form_allowed, form_size, form_words}

-- the paper's number of each refusal, 0 without one
abbrev pub encode_refusal_of : Result ⊤ EncodeError → ℕ
encode_refusal_of (Ok _) = 0
-- a field that its register's rule forbids
encode_refusal_of (Err Forbidden) = 24
-- a buffer of under 80 bytes, for the second form under 100
encode_refusal_of (Err ShortBuffer) = 12

-- for a buffer of this length: 24 before 12
unfoldable pub answer_of : Form → ℕ → Result ⊤ EncodeError
answer_of form size = cond (form_allowed form) (cond (ltb size (form_size form)) (Err ShortBuffer) (Ok tt)) (Err Forbidden)

-- Internal: of so many words, whatever they are
abbrev pub fitting_answer : ℕ → ℕ → Result ⊤ EncodeError
fitting_answer count size = cond (ltb size (4 * count)) (Err ShortBuffer) (Ok tt)

-- the bytes of the task in this form
unfoldable pub task_bytes : Form → List ℕ
task_bytes form = words_bytes (form_words form)

-- a refusal changes nothing; else the first 80 or 100 bytes, and no others, are written
abbrev pub buffer_on_answer : Result ⊤ EncodeError → List ℕ → List ℕ → List ℕ
buffer_on_answer (Ok _) bytes buffer = spliced 0 bytes buffer
buffer_on_answer (Err _) bytes buffer = buffer

unfoldable pub buffer_after : Form → List ℕ → List ℕ
buffer_after form buffer = buffer_on_answer (answer_of form (length buffer)) (task_bytes form) buffer
