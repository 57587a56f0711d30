use mathlib.Core.Path.{◌≡◌}
use Prim.Native.Nat.{◌*◌, ◌-◌, ◌/◌}
use lib.ListN.{length}
use Rattle.claims.specs.Engine.{mk_state}
use Rattle.script_player.proofs.Going.{Going}
use Rattle.script_player.proofs.play_calls.Given as goal

abbrev pub invariant-loop-k : goal.invariant-loop-k
invariant-loop-k l =
    (length l.answers ≡ length l.initial.answers) × (length l.ring ≡ length l.initial.ring) × (length l.memory ≡ length l.initial.memory)
    × Going (length l.initial.answers / 24) l.script (mk_state l.initial.engine l.initial.ring l.initial.memory) l.initial.answers l.rest (24 * l.k) (length l.initial.answers / 24 - l.k) (mk_state l.engine l.ring l.memory) l.answers
