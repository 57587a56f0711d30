use Rattle.std.proofs.Common.{◌≡◌, ℕ, ◌-◌, ◌≤◌, List, length}
use Rattle.claims.specs.Engine.{State}
use Rattle.replay.specs.Chunking.{Stands}
use Rattle.replay_pieces.specs.Reached.{handed_of}
use Rattle.replay_pieces.proofs.Reaching.{Feeding}
use Rattle.replay_pieces.proofs.feed_piece.Given as goal

abbrev pub invariant-loop-used : goal.invariant-loop-used
invariant-loop-used g l =
    (l.used ≤ length l.piece) × (65536 ≡ length l.out) × (length l.held ≡ length l.initial.held) × (length l.ring ≡ length l.initial.ring) × (length l.memory ≡ length l.initial.memory)
    × ((engine : State) (seen text : List ℕ) → Stands engine seen text l.initial.now l.initial.held l.initial.ring l.initial.memory → l.handed ≡ handed_of l.shows text → Feeding l.initial.now.edition engine seen text l.piece l.shows l.used l.now l.sum l.held l.ring l.memory)

abbrev pub decreases-loop-used : goal.decreases-loop-used
decreases-loop-used g l = length l.piece - l.used
