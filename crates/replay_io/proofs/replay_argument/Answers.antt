use Rattle.std.proofs.Common.{rules}
use Rattle.replay_pieces.proofs.Reaching.{unread}
use Rattle.replay_io.proofs.replay_argument.Goals as goal

pub returns-in_err-file : goal.returns-in_err-file
returns-in_err-file g c =
    let a = c.args in
    let none = λ (f : _). unread a.edition a.memory.now a.shows f in
    search (rules, none)
