use Rattle.std.proofs.Common.{replicate}
use Rattle.replay_pieces.proofs.Reaching.{unread}
use Rattle.replay_io.proofs.programs.print_lines.Goals as goal

pub returns : goal.returns
returns g c = record { memory = replicate 65536 0; replayed = unread _ _ _ _ }
