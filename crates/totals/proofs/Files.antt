-- Files added one after another.
use mathlib.Core.Path.{◌≡◌, refl, sym}
use mathlib.Core.Bool.{true, false, false≢true}
use mathlib.Core.List.{List, [], ◌∷◌, ◌++◌}
use Prim.Native.Nat.{ℕ}
use Rattle.totals.specs.declared.Totals.{Totals}
use Rattle.totals.specs.declared.Answer.{Answer}
use Rattle.totals.specs.declared.Outcome.{Outcome}
use Rattle.totals.specs.Totals.{unchanged}
use Rattle.totals.specs.Files.{Files, AddedAll, nil, cons, AddsFile}

module _ (Adds : Totals → List ℕ → Answer → Type 0) where
  -- one file after the others
  pub added-last : (totals before : Totals) (files : Files) (file : List ℕ) (answer : Answer)
      → AddedAll Adds totals files before → Adds before file answer → answer.refusal ≡ 0 → AddedAll Adds totals (files ++ (file ∷ [])) answer.totals
  added-last totals before files file answer nil A e = cons A e nil
  added-last totals before files file answer (cons B f T) A e = cons B f (added-last _ before _ file answer T A e)

  -- ---- a file that could be read, and one that could not

  pub file-none : (totals : Totals) (r : Outcome) → r ≡ record { read = false; answer = unchanged totals } → AddsFile Adds totals r
  file-none totals r is = rw is (record { file = []; added = λ e. absurd (false≢true e); unread = λ e. refl })

  pub file-some : (totals : Totals) (file : List ℕ) (answer : Answer) → Adds totals file answer → AddsFile Adds totals (record { read = true; answer = answer })
  file-some totals file answer A = record { file = file; added = λ e. A; unread = λ e. absurd (false≢true (sym e)) }
