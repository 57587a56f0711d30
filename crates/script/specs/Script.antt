-- A script: a list of calls as bytes. Each call is an opcode byte and its arguments, numbers little-endian, with no padding:
--   0 open: start and length, four bytes each
--   1 submit: client, one byte; length, four bytes; that many bytes
--   2 run
--   3 pending: client, one byte
--   4 begin: client, one byte; total length, four bytes
--   5 piece: as submit
--   6 cancel: client, one byte
--   7 close: client, one byte
-- An unknown opcode, or a call that is cut short, ends the list.
use Rattle.std.specs.Prelude.{◌≡◌, List, [], ◌∷◌, ◌++◌, cond, ℕ, zero, suc, ◌+◌, ◌≤◌, ◌<◌, ◌^◌, length, take, drop, get_or, ltb, eqb}
use Rattle.word.specs.Word.{AllBytes, le32_at, le_bytes}
use Rattle.model.specs.Calls.{Call, opens, submit, run, pending, begin, piece, cancel, close}

-- what stands at the start of some bytes: no call, or a call and the bytes after it
pub data Parsed : Type 0 where
  ended : Parsed
  parsed : (call : Call) (rest : List ℕ) → Parsed

-- ---- bytes that begin with an opcode

abbrev pub parse_open : List ℕ → Parsed
parse_open bytes =
    cond (ltb (length bytes) 9) ended
    (parsed (opens (record { start = le32_at bytes 1; length = le32_at bytes 5 })) (drop 9 bytes))

-- a client and bytes; bytes that are too short for the length to be there are too short for the call as well
abbrev pub parse_bytes : (ℕ → List ℕ → Call) → List ℕ → Parsed
parse_bytes call bytes =
    let size : ℕ = le32_at bytes 2 in
    cond (ltb (length bytes) (6 + size)) ended
    (parsed (call (get_or bytes 1 0) (take size (drop 6 bytes))) (drop (6 + size) bytes))

-- a client alone
abbrev pub parse_client : (ℕ → Call) → List ℕ → Parsed
parse_client call bytes = cond (ltb (length bytes) 2) ended (parsed (call (get_or bytes 1 0)) (drop 2 bytes))

abbrev pub parse_begin : List ℕ → Parsed
parse_begin bytes = cond (ltb (length bytes) 6) ended (parsed (begin (get_or bytes 1 0) (le32_at bytes 2)) (drop 6 bytes))

abbrev pub parse_run : List ℕ → Parsed
parse_run bytes = parsed run (drop 1 bytes)

-- ---- the list

-- the call that the bytes begin with
unfoldable pub parse_call : List ℕ → Parsed
parse_call [] = ended
parse_call (opcode ∷ body) =
    cond (eqb opcode 0) (parse_open (opcode ∷ body))
    (cond (eqb opcode 1) (parse_bytes submit (opcode ∷ body))
    (cond (eqb opcode 2) (parse_run (opcode ∷ body))
    (cond (eqb opcode 3) (parse_client pending (opcode ∷ body))
    (cond (eqb opcode 4) (parse_begin (opcode ∷ body))
    (cond (eqb opcode 5) (parse_bytes piece (opcode ∷ body))
    (cond (eqb opcode 6) (parse_client cancel (opcode ∷ body))
    (cond (eqb opcode 7) (parse_client close (opcode ∷ body))
    ended)))))))

-- a call, and those of the bytes after it
abbrev pub cons_call : (List ℕ → List Call) → Parsed → List Call
cons_call others ended = []
cons_call others (parsed call rest) = call ∷ others rest

-- the calls of a script, n at most
unfoldable pub decode : (n : ℕ) → (script : List ℕ) → List Call
decode zero script = []
decode (suc n) script = cons_call (decode n) (parse_call script)

-- ---- the other way

-- the bytes of a call
unfoldable pub encode_one : Call → List ℕ
encode_one (opens w) = 0 ∷ (le_bytes w.start ++ le_bytes w.length)
encode_one (submit client bytes) = 1 ∷ client ∷ (le_bytes (length bytes) ++ bytes)
encode_one run = 2 ∷ []
encode_one (pending client) = 3 ∷ client ∷ []
encode_one (begin client total) = 4 ∷ client ∷ le_bytes total
encode_one (piece client bytes) = 5 ∷ client ∷ (le_bytes (length bytes) ++ bytes)
encode_one (cancel client) = 6 ∷ client ∷ []
encode_one (close client) = 7 ∷ client ∷ []

unfoldable pub encode : List Call → List ℕ
encode [] = []
encode (call ∷ calls) = encode_one call ++ encode calls

-- there is room for the call's numbers: a byte for a client and for each of a batch, four for every other
abbrev pub CallFits : Call → Type 0
CallFits (opens w) = (w.start < 2 ^ 32) × (w.length < 2 ^ 32)
CallFits (submit client bytes) = (client < 2 ^ 8) × (length bytes < 2 ^ 32) × AllBytes bytes
CallFits run = Unit {0}
CallFits (pending client) = client < 2 ^ 8
CallFits (begin client total) = (client < 2 ^ 8) × (total < 2 ^ 32)
CallFits (piece client bytes) = (client < 2 ^ 8) × (length bytes < 2 ^ 32) × AllBytes bytes
CallFits (cancel client) = client < 2 ^ 8
CallFits (close client) = client < 2 ^ 8

abbrev pub CallsFit : List Call → Type 0
CallsFit [] = Unit {0}
CallsFit (call ∷ calls) = CallFits call × CallsFit calls

-- The promise: every list of calls whose numbers fit has a script that is decoded to it. proofs/Decode.antt proves it.
pub record ScriptRoundTrip (calls : List Call) : Type 0 where
  pub bytes : AllBytes (encode calls)
  pub back : (n : ℕ) → length calls ≤ n → decode n (encode calls) ≡ calls
