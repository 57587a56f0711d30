-- A file, whatever its pieces.
use mathlib.Core.Path.{◌≡◌, refl, sym, ap, subst, ◌∙◌}
use mathlib.Core.Bool.{Bool, true, false, cond, false≢true}
use mathlib.Core.Logic.{◌⊎◌, inl, inr}
use mathlib.Core.List.{List, [], ◌∷◌, ◌++◌, append-nil, append_assoc}
use Prim.Native.Nat.{ℕ, zero, suc, ◌+◌, ◌-◌, ◌≤◌, ◌<◌}
use native.Mathlib.Omega.{arith}
use lib.ListN.{length, get_or, take, drop, length-drop}
use lib.Seq.{take_all, take-add}
use borrow.Author.Tests.{ne_eqb}
use Rattle.records.specs.declared.Edition.{Edition}
use Rattle.records.specs.declared.Stage.TheVariants.{Version}
use Rattle.records.specs.declared.Found.{Found}
use Rattle.records.specs.declared.Found.TheVariants.{Nothing, Record, BadVersion, BadRecord}
use Rattle.records.specs.declared.Taken.{Taken}
use Rattle.records.specs.Records.{Entry, File, records}
use Rattle.records.specs.Reading.{file_at, onto, ReaderReady, Takes, taken_by, held_after}
use Rattle.records.proofs.Bytes.{room-between}
use Rattle.records.proofs.Onward.{ends-here}
use Rattle.totals.specs.declared.Totals.{Totals}
use Rattle.totals.specs.declared.Answer.{Answer}
use Rattle.totals.specs.Totals.{largest}
use Rattle.tally.specs.declared.Running.{Running}
use Rattle.tally.specs.declared.Tally.{Tally}
use Rattle.tally.specs.declared.FeedResult.{FeedResult}
use Rattle.tally.specs.Counts.{Count, count_over, record_count, edition_of, file_count, position}
use Rattle.tally.specs.Running.{found_plus}
use Rattle.tally.specs.Tally.{total_of, Adds, CountOverflows, Keeps, edition_for, rest_count, tally_start, fed_in, fed_by, held_by, Stands, TallyFeedContract}
use Rattle.tally.proofs.Sums.{keeps_as, found_count, keeps-found}

-- ---- the start

pub starts_by : (totals : Totals) (t : Tally) (held : List ℕ) → length totals.counts ≡ 14 → ((c : Count) → total_of c totals ≤ largest)
    → t ≡ tally_start totals → 32777 ≤ length held → Stands totals [] t held
unfolding file_count records
starts_by totals t held size small is room = rw is (record {
  before = refl;
  room = room;
  ready = λ rest. record { room = omega (arith, room-between (edition_of rest)); few = omega (arith, room-between (edition_of rest)); due = tt };
  so_far = λ c. 0;
  file = λ rest c. omega arith;
  keeps = record { size = size; small = small; exact = λ e c. omega arith; over = λ e. absurd (false≢true (sym e)) };
})

-- ---- a step

-- the edition is that of the bytes to come, of which the first is there
edition-front : (t : Tally) (input rest : List ℕ) (used : ℕ) → 1 ≤ used → 1 ≤ length input → edition_for t (take used input ++ rest) ≡ edition_for t input
edition-front t [] rest used some long = absurd (omega arith)
edition-front t (v ∷ more) rest zero some long = absurd (omega arith)
edition-front t (v ∷ more) rest (suc u) some long = refl

found-sum : (c : Count) (edition : Edition) (found : Found) (held : List ℕ) (file : File)
    → count_over (record_count c edition) (onto found held file).entries ≡ found_count c edition found held + count_over (record_count c edition) file.entries
unfolding count_over
found-sum c edition Nothing held file = omega arith
found-sum c edition (Record end) held file = refl
found-sum c edition BadVersion held file = omega arith
found-sum c edition BadRecord held file = omega arith

module _ (totals : Totals) (seen held input held' : List ℕ) (t : Tally) (e : Edition) (u : Taken) (some : 1 ≤ length input) (e-is : e ≡ edition_for t input)
    (takes : ReaderReady e t.reader held → Takes e t.reader held input u held') (same : length held' ≡ length held) (S : Stands totals seen t held) where
  T : Takes e t.reader held input u held'
  T = takes (rw e-is (S.ready input))

  abbrev bytes : List ℕ
  bytes = take u.used input

  -- what is to come, before it and after it
  rest-is : (rest : List ℕ) (c : Count) → rest_count c t held (bytes ++ rest) ≡ found_count c e u.found held' + count_over (record_count c e) (file_at e u.reader held' rest).entries
  rest-is rest c =
      ap (λ (g : Edition). count_over (record_count c g) (file_at g t.reader held (bytes ++ rest)).entries) (edition-front t input rest u.used (T.some some) some ∙ sym e-is)
      ∙ ap (λ (file : File). count_over (record_count c e) file.entries) (T.file rest)
      ∙ found-sum c e u.found held' (file_at e u.reader held' rest)

  pub feeds_by : (fed : FeedResult) (running : Running) → running ≡ found_plus e u.found held' t.running
      → fed ≡ record { tally = record { before = t.before; edition = e; begun = true; reader = u.reader; running = running }; used = u.used } → TallyFeedContract totals seen input fed held'
  feeds_by fed running running-is fed_is = rw (fed_is, running-is) (record {
    stands = record {
      before = S.before;
      room = omega (arith, S.room, same);
      ready = λ rest. T.ready;
      so_far = λ c. S.so_far c + found_count c e u.found held';
      file = λ rest c.
          ap (file_count c) (append_assoc seen bytes rest) ∙ S.file (bytes ++ rest) c ∙ omega (arith, rest-is rest c);
      keeps = keeps_as _ _ _ (λ c. omega arith) (keeps-found e u.found held' (λ c. total_of c totals + S.so_far c) t.running S.keeps);
    };
    some = T.some;
  })

-- the same by itself, whatever the tally, the buffer and the input are
pub fed_is : (t : Tally) (held input held' : List ℕ) (e : Edition) (u : Taken) (running : Running) → (length input ≡ 0 → ⊥) → e ≡ edition_for t input
    → u ≡ taken_by e t.reader held input → held' ≡ held_after e t.reader held input → running ≡ found_plus e u.found held' t.running
    → (record { tally = record { before = t.before; edition = e; begun = true; reader = u.reader; running = running }; used = u.used } ≡ fed_by t held input) × (held' ≡ held_by t held input)
unfolding fed_in
fed_is t held input held' e u running some e-is u-is held_is running-is =
    (rw (ne_eqb (length input) 0 some, running-is, held_is, u-is, e-is), rw (ne_eqb (length input) 0 some, held_is, e-is))

-- no input
pub feeds-none : (totals : Totals) (seen input held : List ℕ) (t : Tally) → length input ≡ 0 → Stands totals seen t held → TallyFeedContract totals seen input (record { tally = t; used = 0 }) held
feeds-none totals seen input held t none S = record { stands = rw (append-nil seen) S; some = λ one. absurd (omega arith) }

-- ---- the end

module _ (totals : Totals) (seen held : List ℕ) (t : Tally) (S : Stands totals seen t held) where
  all_there : (c : Count) → file_count c seen ≡ S.so_far c
  unfolding count_over
  all_there c =
      ap (file_count c) (sym (append-nil seen))
      ∙ S.file [] c
      ∙ ap (λ (es : List Entry). S.so_far c + count_over (record_count c (edition_for t [])) es) (ends-here (edition_for t []) t.reader held (S.ready []))
      ∙ omega arith

  pub ends-large : t.running.fits ≡ false → Adds totals seen (record { refusal = 19; totals = t.before })
  ends-large e = rw S.before (record {
    adds = λ small. let o = S.keeps.over e in absurd (omega (arith, o.large, small o.count, all_there o.count));
    refuses = λ c large. (refl, refl);
    only = inr (refl, refl);
  })

  pub ends-small : (after : Totals) → after.counts ≡ t.running.counts → t.running.fits ≡ true → Adds totals seen (record { refusal = 0; totals = after })
  ends-small after is e = record {
    adds = λ small. (refl, λ c. ap (λ (xs : List ℕ). get_or xs (position c) 0) is ∙ S.keeps.exact e c ∙ omega (arith, all_there c));
    refuses = λ c large. absurd (omega (arith, large, S.keeps.exact e c, S.keeps.small c, all_there c));
    only = inl refl;
  }

-- ---- a piece

module _ (totals : Totals) (seen piece : List ℕ) (used : ℕ) (fed : FeedResult) (held' : List ℕ) where
  -- what is left of it
  abbrev left : List ℕ
  left = take (length piece - used) (drop used piece)

  left_is : left ≡ drop used piece
  left_is = take_all (length piece - used) (drop used piece) (omega (arith, length-drop used piece))

  pub piece_again : TallyFeedContract totals (seen ++ take used piece) left fed held' → Stands totals (seen ++ take (used + fed.used) piece) fed.tally held'
  piece_again F =
      let bytes : (seen ++ take used piece) ++ take fed.used left ≡ seen ++ take (used + fed.used) piece =
      append_assoc seen (take used piece) (take fed.used left)
      ∙ ap (λ (xs : List ℕ). seen ++ (take used piece ++ take fed.used xs)) left_is
      ∙ ap (λ (xs : List ℕ). seen ++ xs) (sym (take-add used fed.used piece)) in
      subst (λ (xs : List ℕ). Stands totals xs fed.tally held') bytes F.stands

  pub piece-some : used < length piece → TallyFeedContract totals (seen ++ take used piece) left fed held' → fed.used ≡ 0 → ⊥
  piece-some more F none = let some : 1 ≤ fed.used = F.some (rw left_is (omega (arith, length-drop used piece))) in omega arith

pub piece-none : (totals : Totals) (seen piece : List ℕ) (t : Tally) (held : List ℕ) → Stands totals seen t held → Stands totals (seen ++ take 0 piece) t held
piece-none totals seen piece t held S = rw (append-nil seen) S

pub piece-all : (totals : Totals) (seen piece : List ℕ) (used : ℕ) (t : Tally) (held : List ℕ) → length piece ≤ used → Stands totals (seen ++ take used piece) t held → Stands totals (seen ++ piece) t held
piece-all totals seen piece used t held h S = rw (take_all used piece h) at S
