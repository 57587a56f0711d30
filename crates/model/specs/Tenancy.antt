-- One tenancy (02, 11: "one stay at a desk, from opening to closing"), and a client replayed alone.
use Rattle.std.specs.Prelude.{◌≡◌, List, [], ◌∷◌, ◌++◌, true, cond, ℕ, eqb}
use Rattle.model.specs.Windows.{Window, byte, contains_any}
use Rattle.model.specs.Calls.{Setup, Call, opens, opened}
use Rattle.model.specs.BatchSemantics.{BatchSemantics}
use Rattle.model.specs.State.{Batch, Model, is_open}
use Rattle.model.specs.Model.{step, after, executed}

-- The bytes of one client's batches, in order (01, "The book of demand 3": "only that desk's").
unfoldable pub batches_of : ℕ → List Batch → List (List ℕ)
batches_of client [] = []
batches_of client (b ∷ bs) = cond (eqb b.client client) (b.bytes ∷ batches_of client bs) (batches_of client bs)

-- Batches drawn one after the other with one window (01, "The book of demand 3": "in the order taken").
unfoldable pub draw_batches : BatchSemantics → (common : ℕ) → Window → List (List ℕ) → (memory : List ℕ) → List ℕ
draw_batches way common w [] memory = memory
draw_batches way common w (bytes ∷ more) memory = draw_batches way common w more (way.draw w common bytes memory)

-- What a byte in no window holds, if these windows were closed (02, 11: "zero if a closed stay owned it, else as at the start").
abbrev pub left_over : List Window → (memory : List ℕ) → ℕ → ℕ
left_over gone memory i = cond (contains_any gone i) 0 (byte memory i)

module _ (way : BatchSemantics) (setup : Setup) (ring : ℕ) where
  -- The client is open before, between and after the calls, so that none of them closes it.
  abbrev pub OpenThroughout : (client : ℕ) → List Call → Model → Type 0
  OpenThroughout client [] model = is_open model client ≡ true
  OpenThroughout client (c ∷ cs) model = (is_open model client ≡ true) × OpenThroughout client cs (step way setup ring c model).after

  -- The model after the calls `before` and then the opening.
  abbrev pub entered : (start : Model) (before : List Call) → Window → Model
  entered start before w = (step way setup ring (opens w) (after way setup ring before start)).after

  -- One tenancy: after the calls `before` the client is opened with the window, and it is open throughout the calls `during`. It goes on
  -- until an accepted close follows.
  pub record Tenancy (start : Model) (before : List Call) (w : Window) (during : List Call) (client : ℕ) : Type 0 where
    pub admitted : (step way setup ring (opens w) (after way setup ring before start)).answer ≡ opened client
    pub lasts : OpenThroughout client during (entered start before w)

  -- The tenancy of a client that is open after the calls.
  pub record Current (start : Model) (calls : List Call) (client : ℕ) : Type 0 where
    pub before : List Call
    pub window : Window
    pub during : List Call
    pub split : calls ≡ before ++ opens window ∷ during
    pub tenancy : Tenancy start before window during client

  -- 02, 11: "Drawn alone now means the stay's own executed batches on memory as its opening found it".
  abbrev pub replayed_alone : (start : Model) (before : List Call) → Window → (during : List Call) (client : ℕ) → List ℕ
  replayed_alone start before w during client =
      draw_batches way setup.common w (batches_of client (executed way setup ring during (entered start before w))) (after way setup ring before start).memory
