-- "tasks before the faulty one stand" (02, 5): the words before a faulty task are by themselves a faultless batch with the same tasks.
use mathlib.Core.Path.{◌≡◌, refl, sym, ap, ◌∙◌}
use mathlib.Core.Bool.{Bool, true, false, cond}
use mathlib.Core.Logic.{◌⊎◌, inl, inr, ⊎_elim}
use mathlib.Core.List.{List, [], ◌∷◌}
use Prim.Native.Nat.{ℕ, zero, suc, ◌+◌, ◌*◌, ◌≤◌}
use native.Mathlib.Nat.{add-zero}
use native.Mathlib.Omega.{arith}
use lib.ListN.{length, take, drop}
use lib.Seq.{length-take-le}
use lib.Dec.{eqb, ltb, eqb-suc-zero}
use borrow.Author.Tests.{eqb-false, le-ltb}
use Rattle.word.specs.Field.{field}
use Rattle.word.proofs.Tests.{or_false}
use Rattle.register.specs.Bank.{write_register}
use Rattle.register.specs.Task.{task_of}
use Rattle.register.specs.declared.bank.Bank.{Bank}
use Rattle.std.specs.Prelude.{Result, Ok, Err, ⊤}
use Rattle.register.specs.declared.bank.WriteFault.{WriteFault}
use Rattle.register.specs.declared.task.Task.{Task}
use Rattle.task_check.specs.declared.fault.Fault.{Fault}
use Rattle.task_check.specs.declared.fault.Fault.TheVariants.{ReservedBits, GroupLength}
use Rattle.task_check.specs.declared.task.Bounds.{Bounds}
use Rattle.task_check.specs.Rules.{check_task}
use Rattle.batch.specs.Batch.{with_fault, DecodedBatch, BatchEnd, finished, faulty, stop_with, cons_task, DecoderState, between_tasks, in_group, reserved_bits, bad_group_length, decode_header, after_write, after_task_check, group_of, decode_from, decode_batch, verdict_of}
use Rattle.batch.proofs.Readings.{on_from, on_with}
use Rattle.batch.proofs.Steps.{faulty_stopped}
use Rattle.raster.specs.Task.{draw_tasks}
use Rattle.raster.proofs.Fold.{batch-tasks}
use Rattle.claims.specs.Demand2.{Standing}

-- a fault lies at word m or past it
abbrev Above : (m : ℕ) → BatchEnd → Type 0
Above m finished = Unit {0}
Above m (faulty f offset) = 4 * m ≤ offset

above_less : (m n : ℕ) (e : BatchEnd) → m ≤ n → Above n e → Above m e
above_less m n finished h a = tt
above_less m n (faulty f offset) h a = omega arith

next_word : (k count : ℕ) → k + suc count ≡ k + 1 + count
next_word k count = omega arith

-- the task that is read is the faulty one, and its group begins at word `head`
abbrev First : (head : ℕ) → DecodedBatch → Type 0
First head r = (r.tasks ≡ []) × Above head r.ending

-- a group that is whole among fewer words
whole : (count calls_simulate less : ℕ) → bad_group_length count calls_simulate ≡ false → count ≤ less → bad_group_length count less ≡ false
whole zero calls_simulate less e h = absurd (eqb-false 0 0 (or_false (eqb 0 0) (ltb calls_simulate 0) e).0 refl)
whole (suc n) calls_simulate less e h = rw (eqb-suc-zero n, le-ltb less (suc n) h)

goes_on : (b : Bank) (k h calls_simulate : ℕ) (go : DecoderState → DecodedBatch) → reserved_bits h ≡ false → bad_group_length (field 15 2 h) calls_simulate ≡ false → decode_header b k h calls_simulate go ≡ go (group_of k h)
goes_on b k h calls_simulate go e l = simp (e, l)

module _ (bounds : Bounds) where
  -- a reading of the first words alone, `least` of them at least: the same tasks, and then the end, no later than the fault
  record Cut (b : Bank) (k : ℕ) (position : DecoderState) (least : ℕ) (ws : List ℕ) (r : DecodedBatch) : Type 0 where
    count : ℕ
    enough : least ≤ count
    within : count ≤ length ws
    bank : Bank
    reads : decode_from bounds b k position (take count ws) ≡ record { tasks = r.tasks; ending = finished; bank = bank }
    low : Above (k + count) r.ending
    rest : decode_from bounds bank (k + count) between_tasks (drop count ws) ≡ stop_with r.bank r.ending

  -- where a group is read, its task may be the faulty one
  abbrev Claim : Bank → ℕ → DecoderState → List ℕ → DecodedBatch → Type 0
  Claim b k between_tasks ws r = Cut b k between_tasks 0 ws r
  Claim b k (in_group left offset ends head) ws r = head ≤ k → First head r ⊎ Cut b k (in_group left offset ends head) left ws r

  -- a header follows
  header_cut : (b : Bank) (k h : ℕ) (ws : List ℕ) (position : DecoderState)
      → ((xs : List ℕ) → decode_from bounds b k position (h ∷ xs) ≡ decode_header b k h (length xs) (on_from bounds b k xs))
      → Claim b (k + 1) (group_of k h) ws (decode_from bounds b (k + 1) (group_of k h) ws)
      → First k (decode_header b k h (length ws) (on_from bounds b k ws)) ⊎ Cut b k position 0 (h ∷ ws) (decode_header b k h (length ws) (on_from bounds b k ws))
  header_cut b k h ws position opens on = by (reserved_bits h) (bad_group_length (field 15 2 h) (length ws)) refl refl
    where
      after : DecodedBatch
      after = decode_from bounds b (k + 1) (group_of k h) ws

      further : reserved_bits h ≡ false → bad_group_length (field 15 2 h) (length ws) ≡ false → Cut b (k + 1) (group_of k h) (field 15 2 h) ws after → Cut b k position 0 (h ∷ ws) after
      further e l c =
          let long : length (take c.count ws) ≡ c.count = length-take-le c.count ws c.within in
          record {
            count = suc c.count;
            enough = omega arith;
            within = omega (arith, c.within);
            bank = c.bank;
            reads =
                opens (take c.count ws)
                ∙ goes_on b k h (length (take c.count ws)) (on_from bounds b k (take c.count ws)) e (whole (field 15 2 h) (length ws) _ l (omega (arith, c.enough, long)))
                ∙ c.reads;
            low = above_less (k + suc c.count) (k + 1 + c.count) after.ending (omega arith) c.low;
            rest = ap (λ (m : ℕ). decode_from bounds c.bank m between_tasks (drop c.count ws)) (next_word k c.count) ∙ c.rest;
          }

      by : (r l : Bool) → reserved_bits h ≡ r → bad_group_length (field 15 2 h) (length ws) ≡ l
          → First k (cond r (stop_with b (faulty ReservedBits (4 * k))) (cond l (stop_with b (faulty GroupLength (4 * k))) after))
          ⊎ Cut b k position 0 (h ∷ ws) (cond r (stop_with b (faulty ReservedBits (4 * k))) (cond l (stop_with b (faulty GroupLength (4 * k))) after))
      by true l er el = inl (refl, omega arith)
      by false true er el = inl (refl, omega arith)
      by false false er el = ⊎_elim (λ (n : First k after). inl n) (λ (c : Cut b (k + 1) (group_of k h) (field 15 2 h) ws after). inr (further er el c)) (on (omega arith))

  read_none : (b : Bank) (k : ℕ) → decode_from bounds b k between_tasks [] ≡ stop_with b finished
  unfolding decode_from
  read_none b k = refl

  -- before a task
  between_tasks-none : (b : Bank) (k : ℕ) (ws : List ℕ) → First k (decode_from bounds b k between_tasks ws) → Cut b k between_tasks 0 ws (decode_from bounds b k between_tasks ws)
  between_tasks-none b k ws n =
      let r : DecodedBatch = decode_from bounds b k between_tasks ws in
      record {
        count = 0;
        enough = omega arith;
        within = omega arith;
        bank = b;
        reads = read_none b k ∙ ap (λ (ts : List Task). record { tasks = ts; ending = finished; bank = b }) (sym n.0);
        low = above_less (k + 0) k r.ending (omega arith) n.1;
        rest = ap (λ (m : ℕ). decode_from bounds b m between_tasks ws) (add-zero k) ∙ ap (λ (ts : List Task). record { tasks = ts; ending = r.ending; bank = r.bank }) n.0;
      }

  between_tasks_cut : (b : Bank) (k h : ℕ) (ws : List ℕ) → Claim b (k + 1) (group_of k h) ws (decode_from bounds b (k + 1) (group_of k h) ws)
      → Cut b k between_tasks 0 (h ∷ ws) (decode_from bounds b k between_tasks (h ∷ ws))
  unfolding decode_from
  between_tasks_cut b k h ws on =
      ⊎_elim (between_tasks-none b k (h ∷ ws)) (λ (c : Cut b k between_tasks 0 (h ∷ ws) (decode_from bounds b k between_tasks (h ∷ ws))). c)
      (header_cut b k h ws between_tasks (λ xs. refl) on)

  -- in a group
  word_cut : (b : Bank) (k n offset : ℕ) (ends : Bool) (head w : ℕ) (ws : List ℕ)
      → ((next : Bank) → Claim next (k + 1) (in_group n (offset + 4) ends head) ws (decode_from bounds next (k + 1) (in_group n (offset + 4) ends head) ws))
      → Claim b k (in_group (suc n) offset ends head) (w ∷ ws) (decode_from bounds b k (in_group (suc n) offset ends head) (w ∷ ws))
  unfolding decode_from
  word_cut b k n offset ends head w ws on lower = by (write_register b offset w) refl
    where
      by : (x : Result Bank WriteFault) → write_register b offset w ≡ x
          → First head (after_write b k x (on_with bounds k (in_group n (offset + 4) ends head) ws))
          ⊎ Cut b k (in_group (suc n) offset ends head) (suc n) (w ∷ ws) (after_write b k x (on_with bounds k (in_group n (offset + 4) ends head) ws))
      by (Err f) e = inl (refl, omega arith)
      by (Ok next) e =
          let r = decode_from bounds next (k + 1) (in_group n (offset + 4) ends head) ws in
          ⊎_elim (λ (z : First head r). inl z)
          (λ (c : Cut next (k + 1) (in_group n (offset + 4) ends head) n ws r). inr (record {
            count = suc c.count;
            enough = omega (arith, c.enough);
            within = omega (arith, c.within);
            bank = c.bank;
            reads = ap (λ (x : Result Bank WriteFault). after_write b k x (on_with bounds k (in_group n (offset + 4) ends head) (take c.count ws))) e ∙ c.reads;
            low = above_less (k + suc c.count) (k + 1 + c.count) r.ending (omega arith) c.low;
            rest = ap (λ (m : ℕ). decode_from bounds c.bank m between_tasks (drop c.count ws)) (next_word k c.count) ∙ c.rest;
          }))
          (on next (omega arith))

  -- after a group that ends the task
  ended : (b : Bank) (k offset head : ℕ) (ws : List ℕ) → decode_from bounds b k (in_group zero offset true head) ws ≡ after_task_check (check_task bounds (task_of b)) b head (decode_from bounds b k between_tasks ws)
  unfolding decode_from
  ended b k offset head [] = refl
  ended b k offset head (w ∷ ws) = refl

  judged_cut : (b : Bank) (k offset head : ℕ) (ws : List ℕ) → Cut b k between_tasks 0 ws (decode_from bounds b k between_tasks ws)
      → Claim b k (in_group zero offset true head) ws (decode_from bounds b k (in_group zero offset true head) ws)
  judged_cut b k offset head ws c lower = rw (ended b k offset head ws) (by (check_task bounds (task_of b)) refl)
    where
      after : DecodedBatch
      after = decode_from bounds b k between_tasks ws

      by : (check : Result ⊤ Fault) → check_task bounds (task_of b) ≡ check → First head (after_task_check check b head after) ⊎ Cut b k (in_group zero offset true head) 0 ws (after_task_check check b head after)
      by (Ok tt) e = inr (record {
        count = c.count;
        enough = c.enough;
        within = c.within;
        bank = c.bank;
        reads =
            ended b k offset head (take c.count ws)
            ∙ ap (λ (check : Result ⊤ Fault). after_task_check check b head (decode_from bounds b k between_tasks (take c.count ws))) e
            ∙ ap (cons_task (task_of b)) c.reads;
        low = c.low;
        rest = c.rest;
      })
      by (Err f) e = inl (refl, omega arith)

  cut_from : (b : Bank) (k : ℕ) (position : DecoderState) (ws : List ℕ) → Claim b k position ws (decode_from bounds b k position ws)
  unfolding decode_from
  cut_from b k between_tasks [] = between_tasks-none b k [] (refl, tt)
  cut_from b k between_tasks (h ∷ ws) = between_tasks_cut b k h ws (cut_from b (k + 1) (group_of k h) ws)
  cut_from b k (in_group (suc n) offset ends head) [] = λ lower. inl (refl, omega arith)
  cut_from b k (in_group (suc n) offset ends head) (w ∷ ws) = word_cut b k n offset ends head w ws (λ next. cut_from next (k + 1) (in_group n (offset + 4) ends head) ws)
  cut_from b k (in_group zero offset false head) [] = λ lower. inl (refl, omega arith)
  cut_from b k (in_group zero offset false head) (h ∷ ws) = λ lower.
      let r = decode_header b k h (length ws) (on_from bounds b k ws) in
      ⊎_elim (λ (n : First k r). inl (n.0, above_less head k r.ending lower n.1)) (λ (c : Cut b k (in_group zero offset false head) 0 (h ∷ ws) r). inr c)
      (header_cut b k h ws (in_group zero offset false head) (λ xs. refl) (cut_from b (k + 1) (group_of k h) ws))
  cut_from b k (in_group zero offset true head) [] = judged_cut b k offset head [] (between_tasks-none b k [] (refl, tt))
  cut_from b k (in_group zero offset true head) (h ∷ ws) = judged_cut b k offset head (h ∷ ws) (between_tasks_cut b k h ws (cut_from b (k + 1) (group_of k h) ws))

pub standing-before : (bounds : Bounds) (bank : Bank) (words memory : List ℕ) (tasks : ℕ) (fault : Fault) (offset : ℕ) → verdict_of (decode_batch bounds bank words) ≡ with_fault tasks fault offset
    → Standing bounds bank words memory tasks fault offset
standing-before bounds bank words memory tasks fault offset v =
    let c = cut_from bounds bank 0 between_tasks words in
    let r = decode_batch bounds bank words in
    let stopped = faulty_stopped tasks fault offset r v in
    let none : 0 + c.count ≡ c.count = omega arith in
    let low : Above (0 + c.count) (faulty fault offset) = rw stopped.0 at c.low in
    record {
      before = c.count;
      within = omega (arith, low);
      faultless = ap verdict_of c.reads ∙ rw stopped.1;
      same =
          batch-tasks bounds bank words memory
          ∙ ap (λ (d : DecodedBatch). draw_tasks d.tasks memory) (sym c.reads)
          ∙ sym (batch-tasks bounds bank (take c.count words) memory);
      begins =
          ap (λ (d : DecodedBatch). decode_from bounds d.bank c.count between_tasks (drop c.count words)) c.reads
          ∙ ap (λ (m : ℕ). decode_from bounds c.bank m between_tasks (drop c.count words)) (sym none)
          ∙ c.rest
          ∙ ap (stop_with r.bank) stopped.0;
    }
