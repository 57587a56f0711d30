-- The batch that is blamed: the engine completed it so, and the word that is shown is the one that was refused.
use mathlib.Core.Path.{◌≡◌, refl, sym, ap, ◌∙◌}
use mathlib.Core.Bool.{Bool, true, false, cond, ◌&&◌}
use mathlib.Core.Logic.{◌⊎◌, inl, inr}
use mathlib.Core.List.{List, [], ◌∷◌}
use Prim.Native.Nat.{ℕ, ◌/◌}
use native.Mathlib.Omega.{arith}
use lib.ListN.{get_or}
use lib.Dec.{eqb}
use borrow.Author.Tests.{eqb-true}
use Rattle.records.specs.declared.Edition.TheVariants.{First}
use Rattle.word.specs.Word.{words}
use Rattle.word.proofs.Tests.{and-true}
use Rattle.register.specs.declared.bank.Bank.{Bank}
use Rattle.register.specs.declared.bank.WriteFault.TheVariants.{Forbidden as NotTaken}
use Rattle.task_check.specs.declared.fault.Fault.{Fault}
use Rattle.task_check.specs.declared.fault.Fault.TheVariants.{ReservedBits, GroupLength, OpenTask, NotWritable, Forbidden, BadSurface, SizeMismatch, OutOfBounds, Overlap}
use Rattle.task_check.specs.Faults.{fault_number}
use Rattle.batch.specs.Batch.{DecodedBatch, BatchEnd, finished, faulty, verdict_of, status_word_of}
use Rattle.claims.specs.BatchSemantics.{bounds_of, completion_status_of}
use Rattle.model.specs.Calls.{completed}
use Rattle.records.specs.Records.{Entry}
use Rattle.lines.specs.Lines.{file_reset}
use Rattle.lines.specs.Answered.{record_refusal, replay_window, verdict, ticket_of_count, count_after}
use Rattle.std.specs.Prelude.{Option, Some, None}
use Rattle.provenance.specs.declared.HeldRegister.{HeldRegister}
use Rattle.provenance.specs.declared.Explanation.{Explanation}
use Rattle.provenance.specs.Drawn.{reading_of}
use Rattle.provenance.specs.Faulted.{register_at, held_in, detail_of, explained_by, explained, why_from, faulted_by}
use Rattle.provenance.specs.Reason.{Blamed}
use Rattle.provenance.proofs.Given.{Accepted, accepted-here, accepted_further, completes}
use Rattle.provenance.proofs.Forbidden.{forbids}

-- ---- the record that was accepted with a ticket

record Named (count ticket : ℕ) (entries : List Entry) (answer : Option Explanation) : Type 0 where
  entry : Entry
  accepted : Accepted count ticket entries entry
  is : answer ≡ explained (words entry.batch) (reading_of entry)

abbrev Found : (found : Option Explanation) (count ticket : ℕ) (entries : List Entry) (answer : Option Explanation) → Type 0
Found found count ticket entries answer = (answer ≡ found) ⊎ Named count ticket entries answer

-- one more in front
module _ (count ticket : ℕ) (entry : Entry) (entries : List Entry) (answer : Option Explanation) where
  further : Named (count_after count entry) ticket entries answer → Named count ticket (entry ∷ entries) answer
  further n = record { entry = n.entry; accepted = accepted_further count ticket entry entries n.entry n.accepted; is = n.is }

  hit : eqb (record_refusal entry) 0 && eqb (ticket_of_count count) ticket ≡ true → (found : Option Explanation)
      → Found (explained (words entry.batch) (reading_of entry)) (count_after count entry) ticket entries answer → Found found count ticket (entry ∷ entries) answer
  hit e found (inl same) =
      let both = and-true (eqb (record_refusal entry) 0) (eqb (ticket_of_count count) ticket) e in
      inr (record {
        entry = entry;
        accepted = accepted-here count ticket entry entries (eqb-true (record_refusal entry) 0 both.0) (eqb-true (ticket_of_count count) ticket both.1);
        is = same;
      })
  hit e found (inr n) = inr (further n)

  miss : (found : Option Explanation) → Found found (count_after count entry) ticket entries answer → Found found count ticket (entry ∷ entries) answer
  miss found (inl same) = inl same
  miss found (inr n) = inr (further n)

abbrev this_why : Entry → Option Explanation
this_why entry = explained (words entry.batch) (reading_of entry)

named : (found : Option Explanation) (count ticket : ℕ) (entries : List Entry) → Found found count ticket entries (why_from found count ticket entries)
unfolding why_from
named found count ticket [] = inl refl
named found count ticket (entry ∷ entries) =
    go (eqb (record_refusal entry) 0 && eqb (ticket_of_count count) ticket) refl
    (named (explained (words entry.batch) (reading_of entry)) (count_after count entry) ticket entries)
    (named found (count_after count entry) ticket entries)
  where
    go : (b : Bool) → eqb (record_refusal entry) 0 && eqb (ticket_of_count count) ticket ≡ b
        → Found (this_why entry) (count_after count entry) ticket entries (why_from (this_why entry) (count_after count entry) ticket entries)
        → Found found (count_after count entry) ticket entries (why_from found (count_after count entry) ticket entries)
        → Found found count ticket (entry ∷ entries) (why_from (cond b (this_why entry) found) (count_after count entry) ticket entries)
    go true e one two = hit count ticket entry entries (why_from (this_why entry) (count_after count entry) ticket entries) e found one
    go false e one two = miss count ticket entry entries (why_from found (count_after count entry) ticket entries) found two

-- ---- what is said of its fault

record Says (ws : List ℕ) (r : DecodedBatch) (answer : Explanation) : Type 0 where
  fault : Fault
  ends : r.ending ≡ faulty fault answer.place
  number : answer.fault ≡ fault
  word : answer.word ≡ get_or ws (answer.place / 4) 0
  detail : answer.detail ≡ detail_of fault (register_at ws (answer.place / 4)) r.bank

says : (ws : List ℕ) (r : DecodedBatch) (answer : Explanation) → Some answer ≡ explained ws r → Says ws r answer
unfolding explained
says ws r answer e = go r.ending refl
  where
    go : (ending : BatchEnd) → r.ending ≡ ending → Says ws r answer
    go finished same =
        let wrong : Some answer ≡ None = e ∙ ap (explained_by ws r.bank) same in
        absurd (let z : ◌≡◌ {A = ℕ} 0 1 = cc in omega arith)
    go (faulty f place) same =
        let all : Some answer ≡ explained_by ws r.bank (faulty f place) = e ∙ ap (explained_by ws r.bank) same in
        let is : answer ≡ record { fault = f; place = place; word = get_or ws (place / 4) 0; detail = detail_of f (register_at ws (place / 4)) r.bank } = cc in
        rw is (record { fault = f; ends = same; number = refl; word = refl; detail = refl })

-- a register is named for 24 alone
register_named : (f : Fault) (at : ℕ) (bank : Bank) (register held : ℕ) → detail_of f at bank ≡ Some (record { offset = register; held = held }) → (f ≡ Forbidden) × (register ≡ at) × (held ≡ held_in bank at)
register_named Forbidden at bank register held e =
    let same : ◌≡◌ {A = HeldRegister} (record { offset = at; held = held_in bank at }) (record { offset = register; held = held }) = cc in
    (refl, sym (ap (λ (h : HeldRegister). h.offset) same), sym (ap (λ (h : HeldRegister). h.held) same))
register_named ReservedBits at bank register held e = absurd (let z : ◌≡◌ {A = ℕ} 0 1 = cc in omega arith)
register_named GroupLength at bank register held e = absurd (let z : ◌≡◌ {A = ℕ} 0 1 = cc in omega arith)
register_named OpenTask at bank register held e = absurd (let z : ◌≡◌ {A = ℕ} 0 1 = cc in omega arith)
register_named NotWritable at bank register held e = absurd (let z : ◌≡◌ {A = ℕ} 0 1 = cc in omega arith)
register_named BadSurface at bank register held e = absurd (let z : ◌≡◌ {A = ℕ} 0 1 = cc in omega arith)
register_named SizeMismatch at bank register held e = absurd (let z : ◌≡◌ {A = ℕ} 0 1 = cc in omega arith)
register_named OutOfBounds at bank register held e = absurd (let z : ◌≡◌ {A = ℕ} 0 1 = cc in omega arith)
register_named Overlap at bank register held e = absurd (let z : ◌≡◌ {A = ℕ} 0 1 = cc in omega arith)

-- ---- from the start

verdict-says : (r : DecodedBatch) (f : Fault) (place number : ℕ) → r.ending ≡ faulty f place → number ≡ fault_number f
    → completion_status_of (verdict_of r) ≡ record { status = status_word_of (verdict_of r); fault = number; offset = place }
verdict-says r f place number e n = rw (e, n)

pub blames : (entries : List Entry) (ticket : ℕ) (answer : Explanation) → faulted_by entries ticket ≡ Some answer → Blamed entries ticket answer
unfolding faulted_by
blames entries ticket answer e = go (named None 0 ticket entries)
  where
    go : Found None 0 ticket entries (why_from None 0 ticket entries) → Blamed entries ticket answer
    go (inl none) = absurd (let wrong : None ≡ Some answer = sym none ∙ e in let z : ◌≡◌ {A = ℕ} 0 1 = cc in omega arith)
    go (inr n) =
        let a = n.accepted in
        let ws : List ℕ = words n.entry.batch in
        let r : DecodedBatch = reading_of n.entry in
        let s = says ws r answer (sym e ∙ n.is) in
        record {
          before = a.before;
          entry = n.entry;
          after = a.after;
          among = a.among;
          status = status_word_of (verdict_of r);
          completes = completes a.before n.entry a.taken
              ∙ ap (λ (t : ℕ). completed n.entry.client t (verdict First n.entry)) a.with
              ∙ ap (completed n.entry.client ticket) (verdict-says r s.fault answer.place (fault_number answer.fault) s.ends (ap fault_number s.number));
          word = s.word;
          refuses = λ register held d.
              let three = register_named s.fault (register_at ws (answer.place / 4)) r.bank register held (sym s.detail ∙ d) in (
                three.1,
                three.2 ∙ ap (held_in r.bank) (sym three.1),
                rw (three.1, s.word) (forbids (bounds_of (replay_window n.entry.client) 16384) (file_reset First) ws answer.place (s.ends ∙ ap (λ (f : Fault). faulty f answer.place) three.0)),
              );
        }
