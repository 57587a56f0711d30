-- Decoding is the other way of encoding: every list of calls whose numbers fit is that of its bytes.
use mathlib.Core.Path.{◌≡◌, refl, ap, ◌∙◌}
use mathlib.Core.List.{List, [], ◌∷◌, ◌++◌}
use Prim.Native.Nat.{ℕ, zero, suc, ◌+◌, ◌≤◌}
use native.Mathlib.Omega.{arith}
use lib.ListN.{length, length-append}
use lib.Seq.{drop-drop, take-append_seam, drop-append_seam}
use Rattle.word.specs.Word.{AllBytes, byte_of, le32_at, le_bytes}
use Rattle.word.proofs.Words.{le32-bytes}
use Rattle.model.specs.Calls.{Call, opens, submit, run, pending, begin, piece, cancel, close}
use Rattle.script.specs.Script.{parsed, parse_call, decode, encode_one, encode, CallFits, CallsFit, ScriptRoundTrip}
use Rattle.script.proofs.Parsing.{open_long, bytes_long, client_long, begin_long, next_open, next-submit, next-pending, next-begin, next-piece, next-cancel, next-close}

-- bytes that begin with a call's
next_encoded : (call : Call) (rest : List ℕ) → CallFits call → parse_call (encode_one call ++ rest) ≡ parsed call rest
unfolding parse_call encode_one le_bytes le32_at
next_encoded (opens w) rest fits =
    let bytes : List ℕ = encode_one (opens w) ++ rest in
    next_open bytes (omega arith) refl ∙ open_long bytes (omega arith) ∙ rw (le32-bytes w.start fits.0, le32-bytes w.length fits.1)
next_encoded (submit client batch) rest fits =
    let bytes : List ℕ = encode_one (submit client batch) ++ rest in
    let size : le32_at bytes 2 ≡ length batch = le32-bytes (length batch) fits.1 in
    let long : 6 + length batch ≤ length bytes = simp length-append (omega arith) in
    next-submit bytes (omega arith) refl ∙ bytes_long bytes submit (rw size long) ∙ rw (size, take-append_seam batch rest, ← drop-drop (length batch) 6 bytes, drop-append_seam batch rest)
next_encoded run rest fits = refl
next_encoded (pending client) rest fits =
    let bytes : List ℕ = encode_one (pending client) ++ rest in
    next-pending bytes (omega arith) refl ∙ client_long bytes pending (omega arith)
next_encoded (begin client total) rest fits =
    let bytes : List ℕ = encode_one (begin client total) ++ rest in
    next-begin bytes (omega arith) refl ∙ begin_long bytes (omega arith) ∙ rw (le32-bytes total fits.1)
next_encoded (piece client batch) rest fits =
    let bytes : List ℕ = encode_one (piece client batch) ++ rest in
    let size : le32_at bytes 2 ≡ length batch = le32-bytes (length batch) fits.1 in
    let long : 6 + length batch ≤ length bytes = simp length-append (omega arith) in
    next-piece bytes (omega arith) refl ∙ bytes_long bytes piece (rw size long) ∙ rw (size, take-append_seam batch rest, ← drop-drop (length batch) 6 bytes, drop-append_seam batch rest)
next_encoded (cancel client) rest fits =
    let bytes : List ℕ = encode_one (cancel client) ++ rest in
    next-cancel bytes (omega arith) refl ∙ client_long bytes cancel (omega arith)
next_encoded (close client) rest fits =
    let bytes : List ℕ = encode_one (close client) ++ rest in
    next-close bytes (omega arith) refl ∙ client_long bytes close (omega arith)

decode-encode : (calls : List Call) → CallsFit calls → (n : ℕ) → length calls ≤ n → decode n (encode calls) ≡ calls
unfolding decode encode parse_call
decode-encode [] fits zero h = refl
decode-encode [] fits (suc n) h = refl
decode-encode (call ∷ calls) fits zero h = absurd (omega arith)
decode-encode (call ∷ calls) fits (suc n) h = rw (next_encoded call (encode calls) fits.0) (ap (λ (cs : List Call). call ∷ cs) (decode-encode calls fits.1 n (omega arith)))

-- ---- what is encoded is bytes

all_append : (xs ys : List ℕ) → AllBytes xs → AllBytes ys → AllBytes (xs ++ ys)
all_append [] ys a b = b
all_append (x ∷ xs) ys a b = (a.0, all_append xs ys a.1 b)

word_bytes : (n : ℕ) → AllBytes (le_bytes n)
unfolding le_bytes byte_of
word_bytes n = (omega arith, (omega arith, (omega arith, (omega arith, tt))))

call_bytes : (call : Call) → CallFits call → AllBytes (encode_one call)
unfolding encode_one
call_bytes (opens w) fits = (omega arith, all_append (le_bytes w.start) (le_bytes w.length) (word_bytes w.start) (word_bytes w.length))
call_bytes (submit client batch) fits = (omega arith, (fits.0, all_append (le_bytes (length batch)) batch (word_bytes (length batch)) fits.2))
call_bytes run fits = (omega arith, tt)
call_bytes (pending client) fits = (omega arith, (fits, tt))
call_bytes (begin client total) fits = (omega arith, (fits.0, word_bytes total))
call_bytes (piece client batch) fits = (omega arith, (fits.0, all_append (le_bytes (length batch)) batch (word_bytes (length batch)) fits.2))
call_bytes (cancel client) fits = (omega arith, (fits, tt))
call_bytes (close client) fits = (omega arith, (fits, tt))

calls-bytes : (calls : List Call) → CallsFit calls → AllBytes (encode calls)
unfolding encode
calls-bytes [] fits = tt
calls-bytes (call ∷ calls) fits = all_append (encode_one call) (encode calls) (call_bytes call fits.0) (calls-bytes calls fits.1)

pub decodes : (calls : List Call) → CallsFit calls → ScriptRoundTrip calls
decodes calls fits = record { bytes = calls-bytes calls fits; back = decode-encode calls fits }
