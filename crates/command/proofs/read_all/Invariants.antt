use Rattle.command.proofs.read_all.Given as goal

abbrev pub invariant-loop : goal.invariant-loop
invariant-loop g l = g.T.Feed.Reaches l.initial.reader l.reader
