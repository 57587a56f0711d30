-- Laws of one number more.
use mathlib.Core.Path.{◌≡◌, refl, sym, ap, ◌∙◌}
use mathlib.Core.Bool.{Bool, true, false, cond}
use mathlib.Core.Logic.{◌⊎◌, inl, inr}
use mathlib.Core.List.{List, [], ◌∷◌}
use Prim.Native.Nat.{ℕ, ◌+◌, ◌-◌, ◌*◌, ◌≤◌, ◌<◌}
use native.Mathlib.Nat.{mul-le-mul}
use native.Mathlib.Omega.{arith}
use lib.ListN.{length, get_or, set}
use lib.Dec.{eqb, leb}
use borrow.Author.Tests.{le-leb, lt-leb, eq-eqb, ne_eqb}
use Rattle.word.proofs.Tests.{split}
use Rattle.task_check.specs.declared.fault.Fault.{Fault}
use Rattle.task_check.specs.declared.fault.Fault.TheVariants.{ReservedBits, GroupLength, OpenTask, NotWritable, Forbidden, BadSurface, SizeMismatch, OutOfBounds, Overlap}
use Rattle.task_check.specs.Faults.{fault_number}
use Rattle.records.specs.declared.Edition.{Edition}
use Rattle.records.specs.declared.Edition.TheVariants.{First, Second}
use Rattle.totals.specs.Totals.{largest}
use Rattle.tally.specs.declared.Running.{Running}
use Rattle.tally.specs.Counts.{Count, edition_of}
use Rattle.tally.specs.Running.{plus}

pub fault-between : (f : Fault) → (20 ≤ fault_number f) × (fault_number f ≤ 28)
fault-between ReservedBits = (omega arith, omega arith)
fault-between GroupLength = (omega arith, omega arith)
fault-between OpenTask = (omega arith, omega arith)
fault-between NotWritable = (omega arith, omega arith)
fault-between Forbidden = (omega arith, omega arith)
fault-between BadSurface = (omega arith, omega arith)
fault-between SizeMismatch = (omega arith, omega arith)
fault-between OutOfBounds = (omega arith, omega arith)
fault-between Overlap = (omega arith, omega arith)

pub pixels_small : (width height : ℕ) → width ≤ 65535 → height ≤ 65535 → width * height ≤ largest
pixels_small width height w h =
    let product : width * height ≤ 65535 * 65535 = mul-le-mul w h in
    omega (arith, product)

-- ---- the first byte

pub edition-none : (xs : List ℕ) → length xs ≡ 0 → First ≡ edition_of xs
edition-none [] e = refl
edition-none (x ∷ xs) e = absurd (omega arith)

pub edition-second : (xs : List ℕ) → (length xs ≡ 0 → ⊥) → get_or xs 0 0 ≡ 2 → Second ≡ edition_of xs
edition-second [] some e = absurd (some refl)
edition-second (x ∷ xs) some e = rw (eq-eqb x 2 e)

pub edition-first : (xs : List ℕ) → (length xs ≡ 0 → ⊥) → (get_or xs 0 0 ≡ 2 → ⊥) → First ≡ edition_of xs
edition-first [] some e = refl
edition-first (x ∷ xs) some e = rw (ne_eqb x 2 e)
