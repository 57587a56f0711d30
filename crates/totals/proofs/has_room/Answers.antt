use native.Mathlib.Omega.{arith}
use Rattle.totals.proofs.Adding.{room-is}
use Rattle.totals.proofs.has_room.Goals as goal

pub returns : goal.returns
returns c = room-is c.args.have c.args.n (omega arith)
