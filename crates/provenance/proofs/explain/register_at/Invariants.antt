use Prim.Native.Nat.{◌+◌, ◌-◌, ◌*◌, ◌<◌, ◌≤◌}
use mathlib.Core.Path.{◌≡◌}
use lib.ListN.{length, drop}
use Rattle.batch.specs.Walk.{words_in}
use Rattle.provenance.specs.Faulted.{register_from}
use Rattle.provenance.proofs.explain.register_at.Given as goal

abbrev pub invariant-loop-at : goal.invariant-loop-at
invariant-loop-at l =
    let ws = words_in l.batch in
    (l.at ≤ l.k) × (l.k < length ws) × (l.group.register + 4 * l.group.left ≤ 131072) × (register_from l.initial.group l.k ws ≡ register_from l.group (l.k - l.at) (drop l.at ws))
