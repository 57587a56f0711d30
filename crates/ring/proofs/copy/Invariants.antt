use mathlib.Core.Path.{◌≡◌}
use mathlib.Core.List.{◌++◌}
use lib.ListN.{length, take, drop}
use Rattle.ring.proofs.copy.Given as goal

-- the bytes passed are copied, the others as they were
abbrev pub invariant-loop-i : goal.invariant-loop-i
invariant-loop-i l = record { same_length : length l.to ≡ length l.initial.to; copied : l.to ≡ take l.i l.from ++ drop l.i l.initial.to }
