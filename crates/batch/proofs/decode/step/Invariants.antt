use Prim.Native.Nat.{◌+◌, ◌-◌, ◌*◌, ◌<◌, ◌≤◌}
use mathlib.Core.Path.{◌≡◌}
use lib.ListN.{drop}
use lib.Dec.{eqb}
use Rattle.word.specs.Field.{field}
use Rattle.batch.specs.Batch.{in_group}
use Rattle.batch.specs.Walk.{words_in, step_from, step_at}
use Rattle.batch.proofs.decode.step.Given as goal

abbrev pub invariant-groups : goal.invariant-groups
invariant-groups l =
    let ws = words_in l.batch in
    (l.initial.head ≤ l.head) × (l.head < l.n) × (step_at l.bounds ws l.initial.held l.initial.head ≡ step_at l.bounds ws l.held l.head)

abbrev pub decreases-groups : goal.decreases-groups
decreases-groups l = l.n - l.head

-- the reading of the group, from its word i on
abbrev pub invariant-loop-i : goal.invariant-loop-i
invariant-loop-i l =
    let ws = words_in l.batch in
    (l.i ≤ l.count)
    × (step_from l.bounds l.initial.held l.first (in_group l.count l.register (eqb (field 0 0 l.h) 1) l.head) (drop l.first ws)
    ≡ step_from l.bounds l.held (l.first + l.i) (in_group (l.count - l.i) (l.register + 4 * l.i) (eqb (field 0 0 l.h) 1) l.head) (drop (l.first + l.i) ws))
