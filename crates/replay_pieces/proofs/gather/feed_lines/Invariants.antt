use Rattle.std.proofs.Common.{◌≡◌, ◌-◌, ◌≤◌, length}
use Rattle.replay_pieces.proofs.Gathering.{Going}
use Rattle.replay_pieces.proofs.gather.feed_lines.Given as goal

abbrev pub invariant-loop-used : goal.invariant-loop-used
invariant-loop-used l =
    Going l.initial.now l.initial.held l.initial.ring l.initial.memory l.input l.used l.written l.now l.held l.ring l.memory l.out
    × (l.used ≤ length l.input)
    × (l.written ≤ length l.initial.out)
    × (length l.held ≡ length l.initial.held)
    × (length l.ring ≡ length l.initial.ring)
    × (length l.memory ≡ length l.initial.memory)
    × (length l.out ≡ length l.initial.out)

abbrev pub decreases-loop-used : goal.decreases-loop-used
decreases-loop-used l = length l.input - l.used
