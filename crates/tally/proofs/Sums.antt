-- Laws of the counts of a record: the numbers grow by what the record adds to each.
use mathlib.Core.Path.{◌≡◌, refl, sym, ap, subst, ◌∙◌}
use mathlib.Core.Bool.{Bool, true, false, cond, ◌&&◌, false≢true}
use mathlib.Core.Logic.{◌⊎◌, inl, inr}
use mathlib.Core.List.{List, [], ◌∷◌}
use Prim.Native.Nat.{ℕ, ◌+◌, ◌-◌, ◌≤◌, ◌<◌}
use native.Mathlib.Omega.{arith}
use lib.ListN.{length, get_or, set, length-set}
use lib.Seq.{get_or-set_same, get_or-set_other}
use lib.Dec.{eqb, leb, eqb_refl}
use borrow.Author.Tests.{le-leb, lt-leb, eqb-true, eqb-false, eq-eqb, ne_eqb}
use Rattle.word.proofs.Tests.{split}
use Rattle.register.specs.declared.task.Task.{Task}
use Rattle.task_check.specs.declared.fault.Fault.{Fault}
use Rattle.task_check.specs.Faults.{fault_number}
use Rattle.batch.specs.Batch.{BatchEnd, finished, faulty, DecodedBatch, tasks_drawn}
use Rattle.records.specs.declared.Edition.{Edition}
use Rattle.records.specs.declared.Edition.TheVariants.{First, Second}
use Rattle.records.specs.declared.Found.{Found}
use Rattle.records.specs.declared.Found.TheVariants.{Nothing, Record, BadVersion, BadRecord}
use Rattle.records.specs.Records.{Entry}
use Rattle.records.specs.Reading.{entry_in}
use Rattle.records.specs.Editions.{score_holds, submission}
use Rattle.lines.specs.Answered.{record_refusal}
use Rattle.totals.specs.Totals.{largest}
use Rattle.tally.specs.declared.Running.{Running}
use Rattle.tally.specs.Counts.{Count, batches, tasks, output_pixels, blended_pixels, faulted, without_score, batch_count, pixels_of, task_count, end_count, count_over, ran_count, batch_of, unscored_count, is_run, record_count, position}
use Rattle.tally.specs.Running.{plus, task_plus, tasks_plus, end_plus, rest_plus, ran_plus, unscored_plus, submitted_plus, record_plus, found_plus}
use Rattle.tally.specs.Tally.{CountOverflows, Keeps}
use Rattle.tally.proofs.Adding.{fault-between}

-- ---- positions

pub few : (c : Count) → position c < 14
few batches = omega arith
few tasks = omega arith
few output_pixels = omega arith
few blended_pixels = omega arith
few (faulted f) = omega (arith, fault-between f)
few without_score = omega arith

-- a number at one count
abbrev at : Count → (n : ℕ) → Count → ℕ
at j n c = cond (eqb (position c) (position j)) n 0

-- ---- numbers that are the same

pub keeps_as : (base base' : Count → ℕ) (s : Running) → ((c : Count) → base c ≡ base' c) → Keeps base s → Keeps base' s
keeps_as base base' s same K = record {
  size = K.size;
  small = K.small;
  exact = λ e c. K.exact e c ∙ same c;
  over = λ e. let o = K.over e in record { count = o.count; large = omega (arith, o.large, same o.count) };
}

-- ---- one number more

module _ (base : Count → ℕ) (s : Running) (j : Count) (n : ℕ) (K : Keeps base s) where
  abbrev have : ℕ
  have = get_or s.counts (position j) 0

  abbrev grown : Count → ℕ
  grown c = base c + at j n c

  abbrev after : List ℕ
  after = set s.counts (position j) (have + n)

  fits : have + n ≤ largest → plus (position j) n s ≡ record { fits = s.fits; counts = after }
  unfolding plus
  fits h = rw (le-leb (have + n) largest h)

  not-fits : largest < have + n → plus (position j) n s ≡ record { fits = false; counts = s.counts }
  unfolding plus
  not-fits h = rw (lt-leb (have + n) largest h)

  -- the number at a position afterwards
  there : (c : Count) → (b : Bool) → eqb (position c) (position j) ≡ b → get_or after (position c) 0 ≡ get_or s.counts (position c) 0 + cond b n 0
  there c true e =
      let same : position c ≡ position j = eqb-true (position c) (position j) e in
      let inside : position j < length s.counts = omega (arith, K.size, few j) in
      rw same (get_or-set_same s.counts (position j) (have + n) 0 inside)
  there c false e = get_or-set_other s.counts (position j) (position c) (have + n) 0 (eqb-false (position c) (position j) e) ∙ omega arith

  small_by : have + n ≤ largest → (c : Count) (b : Bool) → eqb (position c) (position j) ≡ b → get_or after (position c) 0 ≤ largest
  small_by h c true e =
      let same : position c ≡ position j = eqb-true (position c) (position j) e in
      let now : get_or s.counts (position c) 0 ≡ have = ap (λ (k : ℕ). get_or s.counts k 0) same in
      omega (arith, there c true e, now)
  small_by h c false e = omega (arith, there c false e, K.small c)

  large_still : CountOverflows base → CountOverflows grown
  large_still o = record { count = o.count; large = omega (arith, o.large) }

  -- where it does not fit, the number itself is too large
  large-here : largest < have + n → (b : Bool) → s.fits ≡ b → CountOverflows grown
  large-here h true e =
      let own : at j n j ≡ n = rw (eq-eqb (position j) (position j) refl) in
      record { count = j; large = omega (arith, h, K.exact e j, own) }
  large-here h false e = large_still (K.over e)

  pub keeps-plus : Keeps grown (plus (position j) n s)
  keeps-plus = go (split largest (have + n))
    where
      go : (largest < have + n) ⊎ (have + n ≤ largest) → Keeps grown (plus (position j) n s)
      go (inr h) = rw (fits h) (record {
        size = length-set s.counts (position j) (have + n) ∙ K.size;
        small = λ c. small_by h c (eqb (position c) (position j)) refl;
        exact = λ e c. there c (eqb (position c) (position j)) refl ∙ ap (λ (m : ℕ). m + at j n c) (K.exact e c);
        over = λ e. large_still (K.over e);
      })
      go (inl h) = rw (not-fits h) (record {
        size = K.size;
        small = K.small;
        exact = λ e. absurd (false≢true e);
        over = λ e. large-here h s.fits refl;
      })

-- ---- a task

task_point : (t : Task) (m : ℕ) (c : Count) → m + at tasks 1 c + at output_pixels (pixels_of t) c + at blended_pixels (cond t.blending.on (pixels_of t) 0) c ≡ m + task_count c t
task_point t m batches = omega arith
task_point t m tasks = omega arith
task_point t m output_pixels = omega arith
task_point t m blended_pixels = omega arith
task_point t m (faulted f) =
    let k : ℕ = fault_number f - 16 in
    let big = fault-between f in
    rw (ne_eqb k 1 (λ e. omega (arith, big)), ne_eqb k 2 (λ e. omega (arith, big)), ne_eqb k 3 (λ e. omega (arith, big))) (omega arith)
task_point t m without_score = omega arith

keeps-task : (base : Count → ℕ) (s : Running) (t : Task) → Keeps base s → Keeps (λ c. base c + task_count c t) (task_plus t s)
keeps-task base s t K =
    let one = keeps-plus base s tasks 1 K in
    let two = keeps-plus _ _ output_pixels (pixels_of t) one in
    let three = keeps-plus _ _ blended_pixels (cond t.blending.on (pixels_of t) 0) two in
    keeps_as _ _ (task_plus t s) (λ c. task_point t (base c) c) three

keeps-tasks : (ts : List Task) (base : Count → ℕ) (s : Running) → Keeps base s → Keeps (λ c. base c + count_over (task_count c) ts) (tasks_plus ts s)
unfolding count_over tasks_plus
keeps-tasks [] base s K = keeps_as base (λ c. base c + 0) s (λ c. omega arith) K
keeps-tasks (t ∷ ts) base s K =
    keeps_as _ (λ c. base c + (task_count c t + count_over (task_count c) ts)) (tasks_plus ts (task_plus t s)) (λ c. omega arith) (keeps-tasks ts (λ c. base c + task_count c t) (task_plus t s) (keeps-task base s t K))

-- ---- the end of a batch

end_none : (c : Count) → end_count c finished ≡ 0
end_none batches = refl
end_none tasks = refl
end_none output_pixels = refl
end_none blended_pixels = refl
end_none (faulted f) = refl
end_none without_score = refl

-- faults and their positions
same-fault : (a b : ℕ) → 20 ≤ a → 20 ≤ b → eqb (a - 16) (b - 16) ≡ eqb a b
same-fault a b p q = go (eqb a b) refl
  where
    go : (r : Bool) → eqb a b ≡ r → eqb (a - 16) (b - 16) ≡ r
    go true e = let same : a ≡ b = eqb-true a b e in eq-eqb (a - 16) (b - 16) (omega arith)
    go false e = ne_eqb (a - 16) (b - 16) (λ same. eqb-false a b e (omega arith))

end_point : (f : Fault) (place : ℕ) (c : Count) → at (faulted f) 1 c ≡ end_count c (faulty f place)
end_point f place batches = let big = fault-between f in rw (ne_eqb 0 (fault_number f - 16) (λ e. omega (arith, big)))
end_point f place tasks = let big = fault-between f in rw (ne_eqb 1 (fault_number f - 16) (λ e. omega (arith, big)))
end_point f place output_pixels = let big = fault-between f in rw (ne_eqb 2 (fault_number f - 16) (λ e. omega (arith, big)))
end_point f place blended_pixels = let big = fault-between f in rw (ne_eqb 3 (fault_number f - 16) (λ e. omega (arith, big)))
end_point f place (faulted g) = rw (same-fault (fault_number g) (fault_number f) (fault-between g).0 (fault-between f).0)
end_point f place without_score = let big = fault-between f in rw (ne_eqb 13 (fault_number f - 16) (λ e. omega (arith, big)))

keeps-end : (ending : BatchEnd) (base : Count → ℕ) (s : Running) → Keeps base s → Keeps (λ c. base c + end_count c ending) (end_plus ending s)
keeps-end finished base s K = keeps_as base (λ c. base c + end_count c finished) s (λ c. omega (arith, end_none c)) K
keeps-end (faulty f place) base s K =
    keeps_as _ (λ c. base c + end_count c (faulty f place)) (end_plus (faulty f place) s) (λ c. ap (λ (m : ℕ). base c + m) (end_point f place c)) (keeps-plus base s (faulted f) 1 K)

-- ---- a batch that was run

batch_point : (c : Count) → at batches 1 c ≡ batch_count c
batch_point batches = refl
batch_point tasks = refl
batch_point output_pixels = refl
batch_point blended_pixels = refl
batch_point (faulted f) = let big = fault-between f in rw (ne_eqb (fault_number f - 16) 0 (λ e. omega (arith, big)))
batch_point without_score = refl

keeps-ran : (batch : DecodedBatch) (base : Count → ℕ) (s : Running) → Keeps base s → Keeps (λ c. base c + ran_count c batch) (ran_plus batch s)
keeps-ran batch base s K =
    let begun = keeps_as _ (λ c. base c + batch_count c) (plus 0 1 s) (λ c. ap (λ (m : ℕ). base c + m) (batch_point c)) (keeps-plus base s batches 1 K) in
    let drawn = keeps-tasks (tasks_drawn batch) _ _ begun in
    keeps_as _ (λ c. base c + ran_count c batch) (ran_plus batch s) (λ c. omega arith) (keeps-end batch.ending _ _ drawn)

-- ---- a record

unscored_none : (c : Count) → unscored_count c Second ≡ 0
unscored_none batches = refl
unscored_none tasks = refl
unscored_none output_pixels = refl
unscored_none blended_pixels = refl
unscored_none (faulted f) = refl
unscored_none without_score = refl

unscored_point : (c : Count) → at without_score 1 c ≡ unscored_count c First
unscored_point batches = refl
unscored_point tasks = refl
unscored_point output_pixels = refl
unscored_point blended_pixels = refl
unscored_point (faulted f) = let big = fault-between f in rw (ne_eqb (fault_number f - 16) 13 (λ e. omega (arith, big)))
unscored_point without_score = refl

keeps_unscored : (edition : Edition) (base : Count → ℕ) (s : Running) → Keeps base s → Keeps (λ c. base c + unscored_count c edition) (unscored_plus edition s)
keeps_unscored First base s K = keeps_as _ (λ c. base c + unscored_count c First) (plus 13 1 s) (λ c. ap (λ (m : ℕ). base c + m) (unscored_point c)) (keeps-plus base s without_score 1 K)
keeps_unscored Second base s K = keeps_as base (λ c. base c + unscored_count c Second) s (λ c. omega (arith, unscored_none c)) K

module _ (edition : Edition) (entry : Entry) (base : Count → ℕ) (s : Running) (K : Keeps base s) where
  abbrev own : Entry
  own = submission edition entry

  begun : Keeps (λ c. base c + unscored_count c edition) (unscored_plus edition s)
  begun = keeps_unscored edition base s K

  record_by : (score taken : Bool) → score_holds edition entry ≡ score → eqb (record_refusal own) 0 ≡ taken → Keeps (λ c. base c + record_count c edition entry) (record_plus edition entry s)
  record_by true true e f = rw (e, f) (keeps_as _ (λ c. base c + (unscored_count c edition + ran_count c (batch_of edition own))) _ (λ c. omega arith) (keeps-ran (batch_of edition own) _ _ begun))
  record_by true false e f = rw (e, f) (keeps_as _ (λ c. base c + (unscored_count c edition + 0)) _ (λ c. omega arith) begun)
  record_by false taken e f = rw e (keeps_as _ (λ c. base c + (unscored_count c edition + 0)) _ (λ c. omega arith) begun)

  pub keeps_record : Keeps (λ c. base c + record_count c edition entry) (record_plus edition entry s)
  keeps_record = record_by (score_holds edition entry) (eqb (record_refusal own) 0) refl refl

-- ---- what a step of the reading found

abbrev pub found_count : Count → Edition → Found → (held : List ℕ) → ℕ
found_count c edition Nothing held = 0
found_count c edition (Record end) held = record_count c edition (entry_in held end)
found_count c edition BadVersion held = 0
found_count c edition BadRecord held = 0

pub keeps-found : (edition : Edition) (found : Found) (held : List ℕ) (base : Count → ℕ) (s : Running) → Keeps base s → Keeps (λ c. base c + found_count c edition found held) (found_plus edition found held s)
keeps-found edition Nothing held base s K = keeps_as base (λ c. base c + 0) s (λ c. omega arith) K
keeps-found edition (Record end) held base s K = keeps_record edition (entry_in held end) base s K
keeps-found edition BadVersion held base s K = keeps_as base (λ c. base c + 0) s (λ c. omega arith) K
keeps-found edition BadRecord held base s K = keeps_as base (λ c. base c + 0) s (λ c. omega arith) K
