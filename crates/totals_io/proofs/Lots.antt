-- What is printed, and what a lot adds.
use mathlib.Core.Path.{◌≡◌, refl, sym, ap, ◌∙◌}
use mathlib.Core.Bool.{Bool, true, false, false≢true}
use mathlib.Core.Logic.{inl}
use mathlib.Core.List.{List, []}
use Prim.Native.Nat.{ℕ, ◌≤◌}
use native.Mathlib.Omega.{arith}
use lib.ListN.{length, take}
use lib.Seq.{length-take-le}
use Rattle.text.specs.Line.{Line, line_of, appended}
use Rattle.text.proofs.Typing.{typed-whole}
use Rattle.totals.specs.declared.Totals.{Totals}
use Rattle.totals.specs.declared.Answer.{Answer}
use Rattle.totals.specs.declared.Outcome.{Outcome}
use Rattle.totals.specs.Totals.{unchanged, AddsTotals}
use Rattle.totals.specs.Files.{AddsFile}
use Rattle.totals.specs.declared.lines.Reading.{Reading}
use Rattle.totals.specs.Reading.{Reads}
use Rattle.totals_io.specs.declared.TotalsFile.{TotalsFile}
use Rattle.totals_io.specs.Lots.{AddsText, ReadsFile}

-- a text in a buffer that has room for it
pub typed-size : (room : ℕ) (bytes bytes' text : List ℕ) (n : ℕ) → length bytes ≡ room → length text ≤ room → line_of bytes' n ≡ appended (line_of bytes 0) text → n ≡ length text
typed-size room bytes bytes' text n size fits e = ap (λ (l : Line). l.end) (e ∙ typed-whole bytes text (omega arith))

-- ---- read and added

module _ (totals : Totals) (text : List ℕ) (reading : Reading) (R : Reads text reading) where
  pub text-none : reading.ok ≡ false → AddsText totals text (unchanged totals)
  text-none bad = record { lines = λ other O e. absurd (false≢true (sym bad ∙ (R.back other O e).0)); nothing = λ never. refl; only = inl refl }

  pub text-some : (answer : Answer) → reading.ok ≡ true → AddsTotals totals reading.totals answer → AddsText totals text answer
  text-some answer good A = record {
    lines = λ other O e. rw (R.back other O e).1 at A;
    nothing = λ never. absurd (never reading.totals (R.counts good) (R.exact good));
    only = A.only;
  }

pub lot-of : (totals : Totals) (file : TotalsFile) (answer : Answer) → ReadsFile file
    → (file.reading.ok ≡ true → AddsTotals totals file.reading.totals answer) → (file.reading.ok ≡ false → answer ≡ unchanged totals)
    → AddsFile AddsText totals (record { read = file.read; answer = answer })
lot-of totals file answer F some never = record { file = F.text; added = λ e. text-is (F.read e) file.reading.ok refl; unread = λ e. never (F.unread e) }
  where
    text-is : Reads F.text file.reading → (ok : Bool) → file.reading.ok ≡ ok → AddsText totals F.text answer
    text-is R true good = text-some totals F.text file.reading R answer good (some good)
    text-is R false bad = rw (never bad) (text-none totals F.text file.reading R bad)

pub no_file : (totals : Totals) → ReadsFile (record { read = false; reading = record { ok = false; totals = totals } })
no_file totals = record { text = []; read = λ e. absurd (false≢true e); unread = λ e. refl }

pub some-file : (text : List ℕ) (reading : Reading) → Reads text reading → ReadsFile (record { read = true; reading = reading })
some-file text reading R = record { text = text; read = λ e. R; unread = λ e. absurd (false≢true (sym e)) }
