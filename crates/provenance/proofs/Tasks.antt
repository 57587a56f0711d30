-- The last task of a list whose output rows hold a byte: it wrote what the list leaves there.
use mathlib.Core.Path.{◌≡◌, refl, ap, ◌∙◌}
use mathlib.Core.Bool.{Bool, true, false, cond}
use mathlib.Core.Logic.{◌⊎◌, inl, inr}
use mathlib.Core.List.{List, [], ◌∷◌, ◌++◌}
use Prim.Native.Nat.{ℕ, ◌+◌, ◌<◌}
use lib.ListN.{length, get_or}
use Rattle.surface.specs.Surface.{InRow}
use Rattle.register.specs.declared.task.Task.{Task}
use Rattle.task_check.proofs.Sound.{Rows}
use Rattle.raster.specs.Task.{draw_task, draw_tasks}
use Rattle.raster.specs.WriteFrame.{OutsideRows, OutsideAllRows, output_byte}
use Rattle.raster.proofs.Judged.{rectangle}
use Rattle.raster.proofs.Outside.{length-tasks, outside-task, inside-task}
use Rattle.std.specs.Prelude.{Option, Some}
use Rattle.provenance.specs.declared.Touch.{Touch}
use Rattle.provenance.specs.Drawn.{Drawn, numbered, tasks_of}
use Rattle.provenance.specs.Touched.{holds, touch_of, last_from}
use Rattle.provenance.proofs.Holds.{holds_row, holds_out}

-- ---- lists

pub tasks-append : (xs ys : List Drawn) → tasks_of (xs ++ ys) ≡ tasks_of xs ++ tasks_of ys
unfolding tasks_of
tasks-append [] ys = refl
tasks-append (x ∷ xs) ys = ap (λ (l : List Task). x.task ∷ l) (tasks-append xs ys)

pub tasks-numbered : (ticket number : ℕ) (ts : List Task) → tasks_of (numbered ticket number ts) ≡ ts
unfolding tasks_of numbered
tasks-numbered ticket number [] = refl
tasks-numbered ticket number (t ∷ ts) = ap (λ (l : List Task). t ∷ l) (tasks-numbered ticket (number + 1) ts)

pub draw-append : (xs ys : List Task) (memory : List ℕ) → draw_tasks (xs ++ ys) memory ≡ draw_tasks ys (draw_tasks xs memory)
unfolding draw_tasks
draw-append [] ys memory = refl
draw-append (x ∷ xs) ys memory = draw-append xs ys (draw_task x memory)

-- each has an output whose rows do not overlap
abbrev pub AllRows : List Task → Type 0
AllRows [] = Unit {0}
AllRows (t ∷ ts) = Rows t.output × AllRows ts

pub rows_append : (xs ys : List Task) → AllRows xs → AllRows ys → AllRows (xs ++ ys)
rows_append [] ys h k = k
rows_append (x ∷ xs) ys h k = (h.0, rows_append xs ys h.1 k)

rows_split : (xs ys : List Task) → AllRows (xs ++ ys) → AllRows ys
rows_split [] ys h = h
rows_split (x ∷ xs) ys h = rows_split xs ys h.1

stays-outside : (ts : List Task) → AllRows ts → (memory : List ℕ) (i : ℕ) → OutsideAllRows ts i → get_or (draw_tasks ts memory) i 0 ≡ get_or memory i 0
unfolding draw_tasks
stays-outside [] h memory i out = refl
stays-outside (t ∷ ts) h memory i out =
    stays-outside ts h.1 (draw_task t memory) i out.1 ∙ outside-task t memory (rectangle t.output h.0) i out.0

-- ---- the last that holds a byte

pub record LastOf (i : ℕ) (ds : List Drawn) (answer : Option Touch) : Type 0 where
  pub before : List Drawn
  pub drawn : Drawn
  pub after : List Drawn
  pub among : ds ≡ before ++ drawn ∷ after
  pub named : answer ≡ Some (touch_of drawn)
  pub row : ℕ
  pub place : ℕ
  pub held : InRow drawn.task.output i row place
  pub later : OutsideAllRows (tasks_of after) i

-- none of them, and the answer is the one before; or the last
abbrev pub Last : (found : Option Touch) (i : ℕ) → List Drawn → (answer : Option Touch) → Type 0
Last found i ds answer = ((answer ≡ found) × OutsideAllRows (tasks_of ds) i) ⊎ LastOf i ds answer

-- one more in front
module _ (i : ℕ) (d : Drawn) (ds : List Drawn) (answer : Option Touch) where
  further : LastOf i ds answer → LastOf i (d ∷ ds) answer
  further l = record {
    before = d ∷ l.before;
    drawn = l.drawn;
    after = l.after;
    among = ap (λ (xs : List Drawn). d ∷ xs) l.among;
    named = l.named;
    row = l.row;
    place = l.place;
    held = l.held;
    later = l.later;
  }

  hit : holds d.task.output i ≡ true → (found : Option Touch) → Last (Some (touch_of d)) i ds answer → Last found i (d ∷ ds) answer
  hit e found (inl none) = inr (record {
    before = [];
    drawn = d;
    after = ds;
    among = refl;
    named = none.0;
    row = _;
    place = _;
    held = holds_row d.task.output i e;
    later = none.1;
  })
  hit e found (inr l) = inr (further l)

  miss : OutsideRows d.task i → (found : Option Touch) → Last found i ds answer → Last found i (d ∷ ds) answer
  unfolding tasks_of
  miss out found (inl none) = inl (none.0, (out, none.1))
  miss out found (inr l) = inr (further l)

pub last-is : (found : Option Touch) (i : ℕ) (ds : List Drawn) → AllRows (tasks_of ds) → Last found i ds (last_from found i ds)
unfolding last_from tasks_of
last-is found i [] h = inl (refl, tt)
last-is found i (d ∷ ds) h = go (holds d.task.output i) refl (last-is (Some (touch_of d)) i ds h.1) (last-is found i ds h.1)
  where
    go : (b : Bool) → holds d.task.output i ≡ b → Last (Some (touch_of d)) i ds (last_from (Some (touch_of d)) i ds) → Last found i ds (last_from found i ds)
        → Last found i (d ∷ ds) (last_from (cond b (Some (touch_of d)) found) i ds)
    go true e this rest = hit i d ds (last_from (Some (touch_of d)) i ds) e found this
    go false e this rest = miss i d ds (last_from found i ds) (holds_out d.task.output i h.0.some h.0.roomy e) found rest

-- ---- what is there in the end

module _ (before after : List Drawn) (d : Drawn) (h : AllRows (tasks_of (before ++ d ∷ after))) (memory : List ℕ) where
  rows-from : AllRows (d.task ∷ tasks_of after)
  unfolding tasks_of
  rows-from = rows_split (tasks_of before) (d.task ∷ tasks_of after) (rw tasks-append at h)

  abbrev found : List ℕ
  found = draw_tasks (tasks_of before) memory

  -- the task writes every byte of its rows
  pub writes : (i y j : ℕ) → i < length memory → InRow d.task.output i y j → get_or (draw_task d.task found) i 0 ≡ output_byte d.task found y j
  writes i y j l r = inside-task d.task found (rectangle d.task.output rows-from.0) i y j (rw (length-tasks (tasks_of before) memory) l) r

  -- and no later one writes this byte
  pub keeps : (i y j : ℕ) → i < length memory → InRow d.task.output i y j → OutsideAllRows (tasks_of after) i
      → get_or (draw_tasks (tasks_of (before ++ d ∷ after)) memory) i 0 ≡ output_byte d.task found y j
  unfolding draw_tasks tasks_of
  keeps i y j l r out =
      ap (λ (ts : List Task). get_or (draw_tasks ts memory) i 0) (tasks-append before (d ∷ after))
      ∙ ap (λ (m : List ℕ). get_or m i 0) (draw-append (tasks_of before) (d.task ∷ tasks_of after) memory)
      ∙ stays-outside (tasks_of after) rows-from.1 (draw_task d.task found) i out
      ∙ writes i y j l r

pub untouched : (ds : List Drawn) → AllRows (tasks_of ds) → (memory : List ℕ) (i : ℕ) → OutsideAllRows (tasks_of ds) i → get_or (draw_tasks (tasks_of ds) memory) i 0 ≡ get_or memory i 0
untouched ds h memory i out = stays-outside (tasks_of ds) h memory i out
