-- A step and then the reading from where it ends are the reading from where it began.
use Prim.Native.Nat.{ℕ, zero, suc, ◌+◌, ◌*◌, ◌<◌, ◌≤◌}
use mathlib.Core.Path.{◌≡◌, refl, ap, ◌∙◌}
use mathlib.Core.Bool.{Bool, true, false, cond}
use mathlib.Core.List.{List, [], ◌∷◌}
use native.Mathlib.Omega.{arith}
use lib.ListN.{length, drop, length-drop}
use lib.Dec.{eqb}
use Rattle.word.specs.Field.{field}
use Rattle.std.specs.Prelude.{Result, Ok, Err, ⊤}
use Rattle.register.specs.Bank.{write_register}
use Rattle.register.specs.Task.{task_of}
use Rattle.register.specs.declared.bank.Bank.{Bank}
use Rattle.register.specs.declared.bank.WriteFault.{WriteFault}
use Rattle.task_check.specs.declared.fault.Fault.{Fault}
use Rattle.task_check.specs.declared.fault.Fault.TheVariants.{ReservedBits, GroupLength}
use Rattle.task_check.specs.declared.task.Bounds.{Bounds}
use Rattle.task_check.specs.Rules.{check_task}
use Rattle.batch.specs.Batch.{DecodedBatch, faulty, stop_with, DecoderState, between_tasks, in_group, reserved_bits, bad_group_length, group_of, decode_header, after_write, after_task_check, decode_from}
use Rattle.batch.specs.Walk.{WalkStep, stopped, decode_rest, step_after_check, step_header, step_write, step_from, step_at, decode_after_step, StepAdvances, StepSimulates}
use Rattle.batch.proofs.DecoderCases.{drop_at}

-- a task that was judged is the step that follows it
judged-step : (bounds : Bounds) (ws : List ℕ) (check : Result ⊤ Fault) (b : Bank) (k head : ℕ)
    → (first : Bank) → after_task_check check b head (decode_rest bounds ws b k) ≡ decode_after_step bounds ws first (step_after_check check b k (4 * head))
judged-step bounds ws (Ok tt) b k head first = refl
judged-step bounds ws (Err f) b k head first = refl

judged-onward : (ws : List ℕ) (check : Result ⊤ Fault) (b : Bank) (k next offset : ℕ) → k < next → next ≤ length ws → StepAdvances k ws (step_after_check check b next offset)
judged-onward ws (Ok tt) b k next offset h l = (h, l)
judged-onward ws (Err f) b k next offset h l = tt

-- a group that ends the task, of the reading
ended : (bounds : Bounds) (ws : List ℕ) (b : Bank) (k offset head : ℕ)
    → decode_from bounds b k (in_group zero offset true head) ws ≡ after_task_check (check_task bounds (task_of b)) b head (decode_from bounds b k between_tasks ws)
unfolding decode_from
ended bounds [] b k offset head = refl
ended bounds (w ∷ ws) b k offset head = refl

-- where a word stands, it is one of the batch, and those after it stand behind it
module _ (words : List ℕ) (k w : ℕ) (ws : List ℕ) (here : w ∷ ws ≡ drop k words) where
  inner : k < length words
  inner = omega (arith, ap length here, length-drop k words)

  behind : ws ≡ drop (k + 1) words
  behind = let e = here ∙ drop_at words k inner in cc

module _ (bounds : Bounds) (words : List ℕ) (first : Bank) where
  abbrev decoding : WalkStep → DecodedBatch
  decoding s = decode_after_step bounds words first s

  write_decoding : (bank : Bank) (k : ℕ) (r : Result Bank WriteFault) (go : Bank → DecodedBatch) (step : Bank → WalkStep) → ((next : Bank) → go next ≡ decoding (step next))
      → after_write bank k r go ≡ decoding (step_write bank k r step)
  write_decoding bank k (Ok next) go step h = h next
  write_decoding bank k (Err f) go step h = refl

  header_decoding : (bank : Bank) (k header follow : ℕ) (go : DecoderState → DecodedBatch) (step : DecoderState → WalkStep) → go (group_of k header) ≡ decoding (step (group_of k header))
      → decode_header bank k header follow go ≡ decoding (step_header bank k header follow step)
  header_decoding bank k header follow go step h = by (reserved_bits header) (bad_group_length (field 15 2 header) follow)
    where
      by : (reserved bad : Bool)
          → cond reserved (stop_with bank (faulty ReservedBits (4 * k)))
          (cond bad (stop_with bank (faulty GroupLength (4 * k))) (go (group_of k header)))
          ≡ decoding (cond reserved (Err (stopped ReservedBits (4 * k) bank))
          (cond bad (Err (stopped GroupLength (4 * k) bank)) (step (group_of k header))))
      by true bad = refl
      by false true = refl
      by false false = h

  -- the task was judged here
  judged-decoding : (bank : Bank) (k head : ℕ) (ws : List ℕ) → ws ≡ drop k words
      → after_task_check (check_task bounds (task_of bank)) bank head (decode_from bounds bank k between_tasks ws) ≡ decoding (step_after_check (check_task bounds (task_of bank)) bank k (4 * head))
  judged-decoding bank k head ws here =
      ap (λ (xs : List ℕ). after_task_check (check_task bounds (task_of bank)) bank head (decode_from bounds bank k between_tasks xs)) here
      ∙ judged-step bounds words (check_task bounds (task_of bank)) bank k head first

  in_group-decoding : (ws : List ℕ) (bank : Bank) (k left offset : ℕ) (ends : Bool) (head : ℕ) → ws ≡ drop k words
      → decode_from bounds bank k (in_group left offset ends head) ws ≡ decoding (step_from bounds bank k (in_group left offset ends head) ws)
  unfolding decode_from step_from
  in_group-decoding [] bank k (suc n) offset ends head here = refl
  in_group-decoding [] bank k zero offset false head here = refl
  in_group-decoding [] bank k zero offset true head here = ended bounds [] bank k offset head ∙ judged-decoding bank k head [] here
  in_group-decoding (w ∷ ws) bank k (suc n) offset ends head here =
      write_decoding bank k (write_register bank offset w) (λ (b : Bank). decode_from bounds b (k + 1) (in_group n (offset + 4) ends head) ws) (λ (b : Bank). step_from bounds b (k + 1) (in_group n (offset + 4) ends head) ws) (λ next. in_group-decoding ws next (k + 1) n (offset + 4) ends head (behind words k w ws here))
  in_group-decoding (h ∷ ws) bank k zero offset false head here =
      header_decoding bank k h (length ws) (λ (p : DecoderState). decode_from bounds bank (k + 1) p ws) (λ (p : DecoderState). step_from bounds bank (k + 1) p ws) (in_group-decoding ws bank (k + 1) (field 15 2 h) (field 31 16 h) (eqb (field 0 0 h) 1) k (behind words k h ws here))
  in_group-decoding (h ∷ ws) bank k zero offset true head here = ended bounds (h ∷ ws) bank k offset head ∙ judged-decoding bank k head (h ∷ ws) here

between_tasks-decoding : (bounds : Bounds) (words : List ℕ) (bank : Bank) (k : ℕ) (ws : List ℕ) → ws ≡ drop k words
    → decode_from bounds bank k between_tasks ws ≡ decode_after_step bounds words bank (step_from bounds bank k between_tasks ws)
unfolding decode_from step_from
between_tasks-decoding bounds words bank k [] here = refl
between_tasks-decoding bounds words bank k (h ∷ ws) here =
    header_decoding bounds words bank bank k h (length ws) (λ (p : DecoderState). decode_from bounds bank (k + 1) p ws) (λ (p : DecoderState). step_from bounds bank (k + 1) p ws) (in_group-decoding bounds words bank ws bank (k + 1) (field 15 2 h) (field 31 16 h) (eqb (field 0 0 h) 1) k (behind words k h ws here))

-- ---- a task ends past where it began, and inside the batch

module _ (bounds : Bounds) (words : List ℕ) (from : ℕ) where
  abbrev Onward : WalkStep → Type 0
  Onward s = StepAdvances from words s

  write_onward : (bank : Bank) (k : ℕ) (r : Result Bank WriteFault) (step : Bank → WalkStep) → ((next : Bank) → Onward (step next)) → Onward (step_write bank k r step)
  write_onward bank k (Ok next) step h = h next
  write_onward bank k (Err f) step h = tt

  header_onward : (bank : Bank) (k header follow : ℕ) (step : DecoderState → WalkStep) → Onward (step (group_of k header)) → Onward (step_header bank k header follow step)
  header_onward bank k header follow step h = by (reserved_bits header) (bad_group_length (field 15 2 header) follow)
    where
      by : (reserved bad : Bool)
          → Onward (cond reserved (Err (stopped ReservedBits (4 * k) bank))
          (cond bad (Err (stopped GroupLength (4 * k) bank)) (step (group_of k header))))
      by true bad = tt
      by false true = tt
      by false false = h

  in_group-onward : (ws : List ℕ) (bank : Bank) (k left offset : ℕ) (ends : Bool) (head : ℕ) → ws ≡ drop k words → from < k → k ≤ length words
      → Onward (step_from bounds bank k (in_group left offset ends head) ws)
  unfolding step_from
  in_group-onward [] bank k (suc n) offset ends head here less within = tt
  in_group-onward [] bank k zero offset false head here less within = tt
  in_group-onward [] bank k zero offset true head here less within = judged-onward words (check_task bounds (task_of bank)) bank from k (4 * head) less within
  in_group-onward (w ∷ ws) bank k (suc n) offset ends head here less within =
      write_onward bank k (write_register bank offset w) (λ (b : Bank). step_from bounds b (k + 1) (in_group n (offset + 4) ends head) ws) (λ next. in_group-onward ws next (k + 1) n (offset + 4) ends head (behind words k w ws here) (omega arith) (omega (arith, inner words k w ws here)))
  in_group-onward (h ∷ ws) bank k zero offset false head here less within =
      header_onward bank k h (length ws) (λ (p : DecoderState). step_from bounds bank (k + 1) p ws) (in_group-onward ws bank (k + 1) (field 15 2 h) (field 31 16 h) (eqb (field 0 0 h) 1) k (behind words k h ws here) (omega arith) (omega (arith, inner words k h ws here)))
  in_group-onward (h ∷ ws) bank k zero offset true head here less within = judged-onward words (check_task bounds (task_of bank)) bank from k (4 * head) less within

between_tasks-onward : (bounds : Bounds) (words : List ℕ) (bank : Bank) (k : ℕ) (ws : List ℕ) → ws ≡ drop k words → StepAdvances k words (step_from bounds bank k between_tasks ws)
unfolding step_from
between_tasks-onward bounds words bank k [] here = tt
between_tasks-onward bounds words bank k (h ∷ ws) here =
    header_onward bounds words k bank k h (length ws) (λ (p : DecoderState). step_from bounds bank (k + 1) p ws) (in_group-onward bounds words k ws bank (k + 1) (field 15 2 h) (field 31 16 h) (eqb (field 0 0 h) 1) k (behind words k h ws here) (omega arith) (omega (arith, inner words k h ws here)))

-- ---- so of every step

pub simulates : (bounds : Bounds) (words : List ℕ) (bank : Bank) (k : ℕ) (step : WalkStep) → step ≡ step_at bounds words bank k → StepSimulates bounds words bank k step
simulates bounds words bank k step is =
    rw is (record { same_decoding = between_tasks-decoding bounds words bank k (drop k words) refl; onward = between_tasks-onward bounds words bank k (drop k words) refl })
