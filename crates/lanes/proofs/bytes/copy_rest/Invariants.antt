use mathlib.Core.Path.{◌≡◌}
use lib.ListN.{length, get_or}
use Rattle.lanes.specs.Lanes.{Done}
use Rattle.lanes.proofs.bytes.copy_rest.Given as goal

abbrev pub invariant-loop-j : goal.invariant-loop-j
invariant-loop-j l = record { same_length : length l.d ≡ length l.initial.d; copied : Done (λ k. get_or l.s k 0) l.initial.d l.d l.a l.j }
