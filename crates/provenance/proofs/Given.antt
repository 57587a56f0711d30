-- The batch of a drawn task: the engine completed it with the ticket that is answered, and the task has the number there that is answered.
use mathlib.Core.Path.{◌≡◌, refl, ap, subst, ◌∙◌}
use mathlib.Core.Bool.{Bool, true, false, cond}
use mathlib.Core.List.{List, [], ◌∷◌, ◌++◌, append_assoc}
use Prim.Native.Nat.{ℕ, ◌+◌}
use lib.ListN.{length, replicate, length-append, length-replicate}
use lib.Dec.{eqb}
use borrow.Author.Tests.{eqb-true}
use Rattle.records.specs.declared.Edition.TheVariants.{First}
use Rattle.register.specs.declared.task.Task.{Task}
use Rattle.batch.specs.Batch.{tasks_drawn}
use Rattle.claims.specs.Engine.{answer_or_refusal}
use Rattle.model.specs.Calls.{completed}
use Rattle.records.specs.Records.{Entry}
use Rattle.lines.specs.Lines.{replay_start, submit_and_run}
use Rattle.lines.specs.Answered.{record_refusal, verdict, ticket_of_count, count_after, accepted_from, submit_and_run_all}
use Rattle.lines.proofs.Answered.{promise as answered}
use Rattle.provenance.specs.Drawn.{Drawn, numbered, reading_of, drawn_by, drawn_from}
use Rattle.provenance.specs.Reason.{Given}

-- ---- a record that was accepted with a ticket, so many having been accepted before these

pub record Accepted (count ticket : ℕ) (entries : List Entry) (entry : Entry) : Type 0 where
  pub before : List Entry
  pub after : List Entry
  pub among : entries ≡ before ++ entry ∷ after
  pub taken : record_refusal entry ≡ 0
  pub with : ticket_of_count (accepted_from count before) ≡ ticket

module _ (count ticket : ℕ) (entry : Entry) (entries : List Entry) where
  pub accepted-here : record_refusal entry ≡ 0 → ticket_of_count count ≡ ticket → Accepted count ticket (entry ∷ entries) entry
  unfolding accepted_from
  accepted-here taken with = record { before = []; after = entries; among = refl; taken = taken; with = with }

  -- one more in front
  pub accepted_further : (found : Entry) → Accepted (count_after count entry) ticket entries found → Accepted count ticket (entry ∷ entries) found
  unfolding accepted_from
  accepted_further found a = record {
    before = entry ∷ a.before;
    after = a.after;
    among = ap (λ (es : List Entry). entry ∷ es) a.among;
    taken = a.taken;
    with = a.with;
  }

-- what the engine answers of a record after others
pub completes : (before : List Entry) (entry : Entry) → record_refusal entry ≡ 0
    → (submit_and_run entry (submit_and_run_all before (replay_start First))).answer ≡ completed entry.client (ticket_of_count (accepted_from 0 before)) (verdict First entry)
unfolding replay_start answer_or_refusal
completes before entry taken =
    ((answered First).each (replicate 32768 0) (replicate 65536 0) (length-replicate {A = ℕ} 32768 0) (length-replicate {A = ℕ} 65536 0) before entry).answers ∙ rw taken

-- ---- all of a list

abbrev All : (Drawn → Type 0) → List Drawn → Type 0
All P [] = Unit {0}
All P (d ∷ ds) = P d × All P ds

module _ (P : Drawn → Type 0) where
  all_append : (xs ys : List Drawn) → All P xs → All P ys → All P (xs ++ ys)
  all_append [] ys h k = k
  all_append (x ∷ xs) ys h k = (h.0, all_append xs ys h.1 k)

  all-at : (before after : List Drawn) (d : Drawn) → All P (before ++ d ∷ after) → P d
  all-at [] after d h = h.0
  all-at (x ∷ xs) after d h = all-at xs after d h.1

  all_map : (Q : Drawn → Type 0) → ((d : Drawn) → P d → Q d) → (ds : List Drawn) → All P ds → All Q ds
  all_map Q f [] h = tt
  all_map Q f (d ∷ ds) h = (f d h.0, all_map Q f ds h.1)

-- ---- the tasks of a batch

record Numbered (ticket : ℕ) (ts : List Task) (d : Drawn) : Type 0 where
  ticket_is : ticket ≡ d.ticket
  earlier : List Task
  later : List Task
  tasks : ts ≡ earlier ++ d.task ∷ later
  number : d.number ≡ length earlier

numbered-all : (ticket : ℕ) (earlier ts : List Task) → All (Numbered ticket (earlier ++ ts)) (numbered ticket (length earlier) ts)
unfolding numbered
numbered-all ticket earlier [] = tt
numbered-all ticket earlier (t ∷ ts) =
    let whole : (earlier ++ t ∷ []) ++ ts ≡ earlier ++ t ∷ ts = append_assoc earlier (t ∷ []) ts in
    let long : length (earlier ++ t ∷ []) ≡ length earlier + 1 = length-append earlier (t ∷ []) in (
      record { ticket_is = refl; earlier = earlier; later = ts; tasks = refl; number = refl },
      rw (whole, long) at (numbered-all ticket (earlier ++ t ∷ []) ts),
    )

-- ---- the records

record From (count : ℕ) (entries : List Entry) (d : Drawn) : Type 0 where
  entry : Entry
  accepted : Accepted count d.ticket entries entry
  numbers : Numbered d.ticket (tasks_drawn (reading_of entry)) d

module _ (count : ℕ) (entry : Entry) (entries : List Entry) where
  here : record_refusal entry ≡ 0 → (d : Drawn) → Numbered (ticket_of_count count) (tasks_drawn (reading_of entry)) d → From count (entry ∷ entries) d
  here taken d n = record {
    entry = entry;
    accepted = accepted-here count d.ticket entry entries taken n.ticket_is;
    numbers = record { ticket_is = refl; earlier = n.earlier; later = n.later; tasks = n.tasks; number = n.number };
  }

  further : (d : Drawn) → From (count_after count entry) entries d → From count (entry ∷ entries) d
  further d f = record { entry = f.entry; accepted = accepted_further count d.ticket entry entries f.entry f.accepted; numbers = f.numbers }

  record_all : All (From count (entry ∷ entries)) (drawn_by count entry)
  unfolding drawn_by
  record_all = go (eqb (record_refusal entry) 0) refl
    where
      go : (b : Bool) → eqb (record_refusal entry) 0 ≡ b → All (From count (entry ∷ entries)) (cond b (numbered (ticket_of_count count) 0 (tasks_drawn (reading_of entry))) [])
      go true e =
          all_map (Numbered (ticket_of_count count) (tasks_drawn (reading_of entry))) (From count (entry ∷ entries)) (here (eqb-true (record_refusal entry) 0 e))
          (numbered (ticket_of_count count) 0 (tasks_drawn (reading_of entry))) (numbered-all (ticket_of_count count) [] (tasks_drawn (reading_of entry)))
      go false e = tt

drawn-all : (count : ℕ) (entries : List Entry) → All (From count entries) (drawn_from count entries)
unfolding drawn_from
drawn-all count [] = tt
drawn-all count (entry ∷ entries) =
    let next : ℕ = count_after count entry in
    all_append (From count (entry ∷ entries)) (drawn_by count entry) (drawn_from next entries) (record_all count entry entries)
    (all_map (From next entries) (From count (entry ∷ entries)) (further count entry entries) (drawn_from next entries) (drawn-all next entries))

pub given : (entries : List Entry) (before after : List Drawn) (d : Drawn) → drawn_from 0 entries ≡ before ++ d ∷ after → Given entries d
given entries before after d e =
    let f = all-at (From 0 entries) before after d (subst (All (From 0 entries)) e (drawn-all 0 entries)) in
    let a = f.accepted in
    let n = f.numbers in
    record {
      before = a.before;
      entry = f.entry;
      after = a.after;
      among = a.among;
      completes = completes a.before f.entry a.taken ∙ ap (λ (t : ℕ). completed f.entry.client t (verdict First f.entry)) a.with;
      earlier = n.earlier;
      later = n.later;
      tasks = n.tasks;
      number = n.number;
    }
