-- Internal: what the code's value of a call stands for.
use Rattle.std.specs.Prelude.{◌≡◌, List, ℕ, Option, Some, None}
use Rattle.std.specs.Borrow.{Bor}
use Rattle.model.specs.Calls.{Call, opens, submit, run, pending, begin, piece, cancel, close}
use Rattle.script.specs.declared.Request.{Request}
use Rattle.script.specs.declared.Request.TheVariants.{Open, Submit, Run, Pending, Begin, Piece, Cancel, Close}
use Rattle.script.specs.declared.ParsedCall.{ParsedCall}
use Rattle.script.specs.Script.{Parsed, ended, parsed}

abbrev pub call_of : Request → Call
call_of (Open start size) = opens (record { start = start; length = size })
call_of (Submit client batch) = submit client batch.now
call_of Run = run
call_of (Pending client) = pending client
call_of (Begin client total) = begin client total
call_of (Piece client bytes) = piece client bytes.now
call_of (Cancel client) = cancel client
call_of (Close client) = close client

abbrev pub parsed_of : Option ParsedCall → Parsed
parsed_of None = ended
parsed_of (Some found) = parsed (call_of found.request) found.rest.now

-- what was read of a call of a client alone, for a call: the client, and the bytes after it
abbrev pub client_parsed : (ℕ → Call) → Option (ℕ × Bor (List ℕ)) → Parsed
client_parsed call None = ended
client_parsed call (Some (client, rest)) = parsed (call client) rest.now

-- the same of a client and bytes
abbrev pub bytes_parsed : (ℕ → List ℕ → Call) → Option (ℕ × Bor (List ℕ) × Bor (List ℕ)) → Parsed
bytes_parsed call None = ended
bytes_parsed call (Some (client, batch, rest)) = parsed (call client batch.now) rest.now

-- the code's value stands for what is parsed
pub record ParsesAs (p : Parsed) (r : Option ParsedCall) : Type 0 where
  pub means : parsed_of r ≡ p
