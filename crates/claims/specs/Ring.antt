-- What a list of calls leaves in the ring, by the reference model alone. 01, "Engine, desks, queue": "The read offset starts at 0", each run moves it "past its batch",
-- and a batch lies "after the newest one (at the read offset if none is ready), going on at byte 0 after the last byte"; 02, 6: the staged submission lies "right after the newest
-- ready one".
use Rattle.std.specs.Prelude.{List, [], ◌∷◌, cond, ℕ, ◌+◌, length, eqb}
use Rattle.ring.specs.Segment.{wrap_offset}
use Rattle.ring.specs.Copied.{copied_in}
use Rattle.model.specs.Calls.{Setup, Call, opens, submit, run, pending, begin, piece, cancel, close}
use Rattle.model.specs.State.{Model, Staging, idle, staging, total_bytes}
use Rattle.model.specs.Refusals.{refusal}
use Rattle.model.specs.Model.{Step, step}
use Rattle.claims.specs.ModelProperties.{batch_semantics}

-- how many bytes of the staged submission have come (02, 6: "bytes so far")
abbrev pub received_bytes : Staging → ℕ
received_bytes idle = 0
received_bytes (staging client total bytes) = length bytes

-- `lent`: the length of the lent ring. `read`: the read offset
module _ (setup : Setup) (lent : ℕ) where
  -- where the next batch goes (01, "Engine, desks, queue": "after the newest one (at the read offset if none is ready)")
  abbrev pub batch_offset : (read : ℕ) → Model → ℕ
  batch_offset read model = wrap_offset setup.ring (read + total_bytes model.waiting)

  -- where the next piece of the staged submission goes (02, 6: the submission lies "right after the newest ready one"): behind the bytes so far
  abbrev pub piece_offset : (read : ℕ) → Model → ℕ
  piece_offset read model = wrap_offset setup.ring (batch_offset read model + received_bytes model.staged)

  -- the ring after a call: submit and pieces alone bring bytes, and a refused one brings none (01, "Engine, desks, queue": "other ring bytes stay", "Run changes no ring byte", a
  -- refusal "changes nothing"; 02, 6, of cancelling: "bytes already copied stay")
  unfoldable pub ring_after_call : (read : ℕ) → Call → Model → List ℕ → List ℕ
  ring_after_call read (opens w) model ring = ring
  ring_after_call read (submit client bytes) model ring =
      cond (eqb (refusal setup lent model (submit client bytes)) 0) (copied_in ring (batch_offset read model) bytes) ring
  ring_after_call read run model ring = ring
  ring_after_call read (pending client) model ring = ring
  ring_after_call read (begin client total) model ring = ring
  ring_after_call read (piece client bytes) model ring =
      cond (eqb (refusal setup lent model (piece client bytes)) 0) (copied_in ring (piece_offset read model) bytes) ring
  ring_after_call read (cancel client) model ring = ring
  ring_after_call read (close client) model ring = ring

  -- the read offset after a call (01, "Engine, desks, queue": "each run moves it past its batch")
  abbrev pub read_after_call : (read : ℕ) → Step → ℕ
  read_after_call read s = wrap_offset setup.ring (read + total_bytes s.executed)

  -- the ring after a list of calls, with the read offset before them (01, "Engine, desks, queue": "The read offset starts at 0")
  unfoldable pub ring_after_calls : (read : ℕ) → List Call → Model → List ℕ → List ℕ
  ring_after_calls read [] model ring = ring
  ring_after_calls read (c ∷ cs) model ring =
      let s : Step = step (batch_semantics setup) setup lent c model in
      ring_after_calls (read_after_call read s) cs s.after (ring_after_call read c model ring)
