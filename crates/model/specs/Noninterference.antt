-- Two runs that differ in one tenancy. 02, 11: "Two runs may differ only in one stay's batches (those of submits and pieces under its id while
-- it is open, refused ones too) and in those starting bytes of its window that no earlier stay owned".
use Rattle.std.specs.Prelude.{◌≡◌, false, List, [], ◌∷◌, ℕ, length}
use Rattle.model.specs.Windows.{Window, In, byte, contains_any}
use Rattle.model.specs.Calls.{Setup, Call, submit, piece, CompletionStatus, Answer, completed}
use Rattle.model.specs.BatchSemantics.{BatchSemantics}
use Rattle.model.specs.State.{initial_model}
use Rattle.model.specs.Model.{closed}
use Rattle.model.specs.Tenancy.{Tenancy}

-- Two lists, equally long and related place by place.
pub data Pointwise {A : Type 0} (R : A → A → Type 0) : List A → List A → Type 0 where
  nil : Pointwise R [] []
  cons : {x y : A} {xs ys : List A} → R x y → Pointwise R xs ys → Pointwise R (x ∷ xs) (y ∷ ys)

-- The same call, or two submits or two pieces that name the client, of the same length; whether they are accepted is not asked
-- (02, 6: "its runs agree on piece lengths, and a desk's pieces count as bytes of its batches").
pub data LowEqualCall (client : ℕ) : Call → Call → Type 0 where
  identical : (call : Call) → LowEqualCall client call call
  same-length-submit : (bytes bytes' : List ℕ) → length bytes ≡ length bytes' → LowEqualCall client (submit client bytes) (submit client bytes')
  same-length-piece : (bytes bytes' : List ℕ) → length bytes ≡ length bytes' → LowEqualCall client (piece client bytes) (piece client bytes')

-- The same answer, or two completions of the client's that differ in nothing but status, fault and offset.
pub data LowEqualAnswer (client : ℕ) : Answer → Answer → Type 0 where
  identical : (answer : Answer) → LowEqualAnswer client answer answer
  own-completion : (ticket : ℕ) (v v' : CompletionStatus) → LowEqualAnswer client (completed client ticket v) (completed client ticket v')

-- Two memories of one length, alike outside the window.
pub record AgreeOutside (w : Window) (memory memory' : List ℕ) : Type 0 where
  pub size : length memory ≡ length memory'
  pub bytes : (i : ℕ) → ¬ (In w i) → byte memory i ≡ byte memory' i

-- The two runs: the same set up, and with it the same reset rule (02, 2: "Demand 3 compares runs with the same choice"); the same ring length; the same
-- calls but for that tenancy's bytes; the same starting memory but for bytes of its window that lie in no window closed before.
pub record LowEquivalent (way : BatchSemantics) (setup : Setup) (ring client : ℕ) (before : List Call) (w : Window) (during during' : List Call) (memory memory' : List ℕ) : Type 0 where
  pub tenancy : Tenancy way setup ring (initial_model memory) before w during client
  pub calls : Pointwise (LowEqualCall client) during during'
  pub size : length memory ≡ length memory'
  pub bytes : (i : ℕ) → ¬ (In w i × (contains_any (closed way setup ring before (initial_model memory)) i ≡ false)) → byte memory i ≡ byte memory' i
