-- The reference model at the real definitions of reading, judging and drawing: what holds of it over any list of calls. The words are those
-- of crate model, specs/Machine and specs/Properties. There is no hypothesis.
use Rattle.std.specs.Prelude.{List, ℕ}
use Rattle.register.specs.Bank.{reset_bank}
use Rattle.model.specs.Windows.{Window}
use Rattle.model.specs.Calls.{Setup, Call}
use Rattle.model.specs.BatchSemantics.{BatchSemantics}
use Rattle.model.specs.State.{Model, initial_model}
use Rattle.model.specs.Model.{step, model_after_all}
use Rattle.model.specs.Noninterference.{LowEquivalent}
use Rattle.model.specs.Machine.{Machine, model_machine, RefusalNoOp, BoundedWaiting, Cutting, Isolation, Noninterference}
use Rattle.model.specs.Properties.{Lowest, Tenanted, FifoOrder, Executed, QuietRefusal}
use Rattle.claims.specs.BatchSemantics.{semantics_from}

-- the registers at reset by the rule of the set up (02, request 2)
abbrev pub batch_semantics : Setup → BatchSemantics
batch_semantics setup = semantics_from (reset_bank setup.reset)

-- the model of this set up as a machine that answers calls (01, "The book of demand 3"); ring: the length of the lent ring
abbrev pub set_up_model : Setup → (ring : ℕ) → Machine
set_up_model setup ring = model_machine (batch_semantics setup) setup ring

-- for any set up, any lent ring length, any starting memory and any list of calls, refused ones included
pub record ModelPropertiesHold (setup : Setup) (ring : ℕ) : Type 0 where
  -- each open client's window is what the executed batches of its tenancy make of memory as its opening found it; other bytes are zero where a tenancy
  -- was closed, and else as at the start
  pub separate : (calls : List Call) (memory : List ℕ) →
      Isolation (batch_semantics setup) setup ring calls memory (set_up_model setup ring) (initial_model memory)
  -- two runs that differ only in one tenancy's bytes agree everywhere else, and from its closing on in all
  pub noninterference : (client : ℕ) (before : List Call) (w : Window) (during during' : List Call) (memory memory' : List ℕ) →
      LowEquivalent (batch_semantics setup) setup ring client before w during during' memory memory' →
      Noninterference (set_up_model setup ring) client before w during during' (initial_model memory) (initial_model memory')
  -- opening takes the lowest free id
  pub lowest : (calls : List Call) (memory : List ℕ) → Lowest (batch_semantics setup) setup ring calls memory
  -- every waiting batch is of an open client, and so is the staged submission
  pub tenanted : (calls : List Call) (memory : List ℕ) → Tenanted (batch_semantics setup) setup ring calls memory
  -- batches are executed in the order of their tickets; at most eight wait
  pub in_order : (calls : List Call) (memory : List ℕ) → FifoOrder (batch_semantics setup) setup ring calls memory
  -- an accepted batch is taken at the latest by the eighth successful run after it
  pub in_time : (calls later : List Call) (memory : List ℕ) →
      BoundedWaiting (set_up_model setup ring) (model_after_all (batch_semantics setup) setup ring calls memory) later (Executed (batch_semantics setup) setup ring calls memory later)
  -- a refused call changes nothing, executes and closes nothing, and its number is one of the table's
  pub refused_no_change : (call : Call) (model : Model) → RefusalNoOp (step (batch_semantics setup) setup ring call model).answer model (step (batch_semantics setup) setup ring call model).after
  pub quiet : (call : Call) (model : Model) → QuietRefusal (batch_semantics setup) setup ring call model
  -- every way to cut a batch into pieces comes to what a whole submit comes to
  pub cutting : (client : ℕ) (pieces : List (List ℕ)) (last : List ℕ) (model : Model) →
      Cutting (set_up_model setup ring) client pieces last model
