-- A file added to the totals, a piece at a time (02, request 14: "19, count too large, totals as before that file").
use Rattle.std.specs.Prelude.{◌≡◌, List, [], ◌++◌, Bool, true, false, cond, ℕ, ◌+◌, ◌≤◌, ◌<◌, eqb, length, get_or, take}
use Rattle.records.specs.declared.Edition.{Edition}
use Rattle.records.specs.declared.Edition.TheVariants.{First}
use Rattle.records.specs.declared.Stage.TheVariants.{Version}
use Rattle.records.specs.declared.Taken.{Taken}
use Rattle.records.specs.Reading.{file_at, ReaderReady, taken_by, held_after}
use Rattle.totals.specs.declared.Totals.{Totals}
use Rattle.totals.specs.declared.Answer.{Answer}
use Rattle.totals.specs.Totals.{largest, count_at, Added}
use Rattle.tally.specs.declared.Running.{Running}
use Rattle.tally.specs.declared.Tally.{Tally}
use Rattle.tally.specs.declared.FeedResult.{FeedResult}
use Rattle.tally.specs.Counts.{Count, count_over, record_count, edition_of, file_count, position}
use Rattle.tally.specs.Running.{found_plus}

-- a count of the totals
abbrev pub total_of : Count → Totals → ℕ
total_of count totals = count_at (position count) totals

-- ---- the promise of a whole file

-- each count grows by what the file's records add to it; or 19, and the totals are as before
abbrev pub Adds : Totals → (file : List ℕ) → Answer → Type 0
Adds totals file answer = Added Count position totals (λ count. file_count count file) answer

-- ---- a piece at a time

-- one of these numbers is too large
pub record CountOverflows (true-counts : Count → ℕ) : Type 0 where
  pub count : Count
  pub large : largest < true-counts count

-- numbers that are these, or one of which is too large
pub record Keeps (true-counts : Count → ℕ) (s : Running) : Type 0 where
  pub size : length s.counts ≡ 14
  pub small : (count : Count) → get_or s.counts (position count) 0 ≤ largest
  pub exact : s.fits ≡ true → (count : Count) → get_or s.counts (position count) 0 ≡ true-counts count
  pub over : s.fits ≡ false → CountOverflows true-counts

-- the edition: that of the version byte, where none has come yet
abbrev pub edition_for : Tally → (rest : List ℕ) → Edition
edition_for t rest = cond t.begun t.edition (edition_of rest)

-- what the file still adds, of which these bytes are to come
abbrev pub rest_count : Count → Tally → (held rest : List ℕ) → ℕ
rest_count count t held rest = count_over (record_count count (edition_for t rest)) (file_at (edition_for t rest) t.reader held rest).entries

-- ---- the calls by themselves, of any tally, buffer and input

-- before the version byte
abbrev pub tally_start : Totals → Tally
tally_start totals = record {
  before = totals;
  edition = First;
  begun = false;
  reader = record { stage = Version; buffered = 0 };
  running = record { fits = true; counts = totals.counts };
}

-- a step of the reading (crate records), and what it found counted
unfoldable pub fed_in : Edition → Tally → (held input : List ℕ) → FeedResult
fed_in edition t held input =
    let taken : Taken = taken_by edition t.reader held input in
    record {
      tally = record {
        before = t.before;
        edition = edition;
        begun = true;
        reader = taken.reader;
        running = found_plus edition taken.found (held_after edition t.reader held input) t.running;
      };
      used = taken.used;
    }

-- of no input nothing is used, and nothing changes
abbrev pub fed_by : Tally → (held input : List ℕ) → FeedResult
fed_by t held input = cond (eqb (length input) 0) (record { tally = t; used = 0 }) (fed_in (edition_for t input) t held input)

-- and the buffer after it
abbrev pub held_by : Tally → (held input : List ℕ) → List ℕ
held_by t held input = cond (eqb (length input) 0) held (held_after (edition_for t input) t.reader held input)

-- at the end of the file
abbrev pub tally_answer : Tally → Answer
tally_answer t = cond t.running.fits (record { refusal = 0; totals = record { counts = t.running.counts } }) (record { refusal = 19; totals = t.before })

-- ---- what they come to

-- after these bytes of a file, which is added to these totals: whatever follows them
pub record Stands (totals : Totals) (seen : List ℕ) (t : Tally) (held : List ℕ) : Type 0 where
  pub before : t.before ≡ totals
  pub room : 32777 ≤ length held
  pub ready : (rest : List ℕ) → ReaderReady (edition_for t rest) t.reader held
  pub so_far : Count → ℕ
  pub file : (rest : List ℕ) (count : Count) → file_count count (seen ++ rest) ≡ so_far count + rest_count count t held rest
  pub keeps : Keeps (λ count. total_of count totals + so_far count) t.running

-- after some input more, and it uses a byte of it if there is one
pub record TallyFeedContract (totals : Totals) (seen input : List ℕ) (f : FeedResult) (held : List ℕ) : Type 0 where
  pub stands : Stands totals (seen ++ take f.used input) f.tally held
  pub some : 1 ≤ length input → 1 ≤ f.used
