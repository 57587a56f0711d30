use Rattle.composite.proofs.has_constant_alpha.Goals as goal

pub returns-in-Global : goal.returns-in-Global
returns-in-Global c = rw c.in-Global.is
