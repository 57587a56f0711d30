-- One more file after others.
use mathlib.Core.Path.{◌≡◌, refl, sym, subst}
use mathlib.Core.Bool.{Bool, true, false}
use mathlib.Core.Logic.{◌⊎◌, inl, inr}
use mathlib.Core.List.{List, [], ◌∷◌, ◌++◌}
use Prim.Native.Nat.{ℕ, ◌+◌, ◌-◌, ◌≤◌}
use native.Mathlib.Omega.{arith}
use lib.ListN.{length, length-append}
use Rattle.totals.specs.declared.Totals.{Totals}
use Rattle.totals.specs.declared.Answer.{Answer}
use Rattle.totals.specs.declared.Outcome.{Outcome}
use Rattle.totals.specs.declared.FilesOutcome.{FilesOutcome}
use Rattle.totals.specs.Totals.{unchanged}
use Rattle.totals.specs.Files.{AddedAll, nil, AddsFile, AddsFiles}
use Rattle.totals.proofs.Files.{added-last}
use Rattle.tally_io.specs.Kinds.{AddsOf}

abbrev Ends : Totals → Answer → Type 0
Ends totals answer = (answer.refusal ≡ 0) ⊎ ((answer.refusal ≡ 19) × (answer.totals ≡ totals))

ends : (lots : Bool) (totals : Totals) (file : List ℕ) (answer : Answer) → AddsOf lots totals file answer → Ends totals answer
unfolding AddsOf
ends true totals file answer A = A.only
ends false totals file answer A = A.only

module _ (lots : Bool) (totals : Totals) where
  pub files-none : (number : ℕ) → number ≡ 0 → AddsFiles (AddsOf lots) totals number (record { answer = unchanged totals; unread = 0 })
  files-none number e = record { files = []; added = nil; all = λ z. sym e; refused = λ n. absurd (n refl) }

  module _ (number : ℕ) (sum : FilesOutcome) (outcome : Outcome) (none-refused : sum.answer.refusal ≡ 0)
      (F : AddsFiles (AddsOf lots) totals number sum) (A : AddsFile (AddsOf lots) sum.answer.totals outcome) where
    so_many : length F.files + sum.unread ≡ number
    so_many = F.all none-refused

    pub next-read : outcome.read ≡ true → AddsFiles (AddsOf lots) totals (number + 1) (record { answer = outcome.answer; unread = sum.unread })
    next-read e = go (ends lots sum.answer.totals A.file outcome.answer (A.added e))
      where
        go : Ends sum.answer.totals outcome.answer → AddsFiles (AddsOf lots) totals (number + 1) (record { answer = outcome.answer; unread = sum.unread })
        go (inl zero) = record {
          files = F.files ++ (A.file ∷ []);
          added = added-last (AddsOf lots) totals sum.answer.totals F.files A.file outcome.answer F.added (A.added e) zero;
          all = λ z. simp length-append (omega (arith, so_many));
          refused = λ n. absurd (n zero);
        }
        go (inr (large, same)) = record {
          files = F.files;
          added = subst (λ (t : Totals). AddedAll (AddsOf lots) totals F.files t) (sym same) F.added;
          all = λ z. absurd (omega (arith, z, large));
          refused = λ n. (
            record {
              file = A.file;
              refusal = large;
              refused = subst (λ (t : Totals). AddsOf lots t A.file outcome.answer) (sym same) (A.added e);
            },
            omega (arith, so_many),
          );
        }

    pub next-unread : outcome.read ≡ false → AddsFiles (AddsOf lots) totals (number + 1) (record { answer = outcome.answer; unread = sum.unread + 1 })
    next-unread e = rw (A.unread e) (record { files = F.files; added = F.added; all = λ z. omega (arith, so_many); refused = λ n. absurd (n refl) })

-- none of the files that are left is refused, or one was
pub files-all : (lots : Bool) (totals : Totals) (number all : ℕ) (sum : FilesOutcome) → AddsFiles (AddsOf lots) totals number sum → number ≤ all → (sum.answer.refusal ≡ 0 → number ≡ all)
    → AddsFiles (AddsOf lots) totals all sum
files-all lots totals number all sum F few whole = record {
  files = F.files;
  added = F.added;
  all = λ e. omega (arith, F.all e, whole e);
  refused = λ n. let R = F.refused n in (R.0, omega (arith, R.1, few));
}

-- a turn: one file more
pub files_turn : (lots : Bool) (totals : Totals) (first index : ℕ) (sum r : FilesOutcome) → first ≤ index → sum.answer.refusal ≡ 0
    → ((totals : Totals) (number : ℕ) → sum.answer.refusal ≡ 0 → AddsFiles (AddsOf lots) totals number sum → AddsFiles (AddsOf lots) totals (number + 1) r)
    → AddsFiles (AddsOf lots) totals (index - first) sum → AddsFiles (AddsOf lots) totals (index + 1 - first) r
files_turn lots totals first index sum r h zero next F =
    let number : (index - first) + 1 ≡ index + 1 - first = omega arith in
    subst (λ (n : ℕ). AddsFiles (AddsOf lots) totals n r) number (next totals (index - first) zero F)
