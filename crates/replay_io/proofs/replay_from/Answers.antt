use Rattle.std.proofs.Common.{rules, replicate}
use Rattle.replay_pieces.proofs.Reaching.{reached-start, replayed-some, replayed-all}
use Rattle.replay_io.proofs.replay_from.Goals as goal

pub returns-in_err-read_all : goal.returns-in_err-read_all
returns-in_err-read_all g c =
    let a = c.read_all in
    let same = a.ensures.same in
    let shows = a.ensures.shows in
    let some = λ (f : _). replayed-some _ (replicate 32768 0) _ _ _ _ _ _ _ (a.ensures.stood _ _ (reached-start _ _ _ (replicate 32777 0) (replicate 32768 0) c.args.memory.now c.start.ensures (search rules))) f in
    search (rules, some, same, shows)

pub returns-in_err-last : goal.returns-in_err-last
returns-in_err-last g c =
    let a = c.read_all in
    let same = a.ensures.same in
    let shows = a.ensures.shows in
    let some = λ (f : _). replayed-some _ (replicate 32768 0) _ _ _ _ _ _ _ (a.ensures.stood _ _ (reached-start _ _ _ (replicate 32777 0) (replicate 32768 0) c.args.memory.now c.start.ensures (search rules))) f in
    search (rules, some, same, shows)

pub returns : goal.returns
returns g c =
    let a = c.read_all in
    let same = a.ensures.same in
    let start = a.ensures.stood _ _ (reached-start c.args.edition c.args.shows c.start.result (replicate 32777 0) (replicate 32768 0) c.args.memory.now c.start.ensures (search rules)) in
    let reached = rw a.ensures.shows at start in
    let all = replayed-all _ (replicate 32768 0) _ _ _ _ _ _ _ reached _ _ _ (search rules) c.finish-last.auto.line c.finish-last.ensures in
    search (rules, all, same)
