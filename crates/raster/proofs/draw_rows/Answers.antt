use Rattle.std.proofs.Common.{◌≡◌, ℕ, suc, refl, arith}
use Rattle.std.specs.Fn.{CalledWithState}
use Rattle.raster.specs.Row.{draw_row}
use Rattle.raster.specs.Rows.{DrawsEach}
use Rattle.raster.proofs.Upto.{upto_none, upto_length, upto_more, upto_all}
use Rattle.raster.proofs.draw_rows.Goals as goal

pub loop-y-init : goal.loop-y-init
loop-y-init g c = record { rows = upto_none _ _; row = c.requires.draws }

pub row-requires : goal.row-requires
row-requires g c =
    let l = c.loop-y in
    (l.invariant.row.at 1 l.memory l.y (upto_length l.invariant.rows) c.loop-y-test.true).0 _ refl

pub loop-y-preserved : goal.loop-y-preserved
loop-y-preserved g c =
    let l = c.loop-y in
    let called : CalledWithState g.F.FnMut l.row l.memory l.y tt c.row.new.self c.row.new.arg2 = record { shown = _; shows = refl; left = _; called = c.row.ensures; leaves = refl } in
    let all : (n : ℕ) → (c.row.new.arg2 ≡ draw_row c.args.task l.y l.memory) × DrawsEach g.F.FnMut c.args.task _ n c.row.new.self = λ n. (l.invariant.row.at (suc n) l.memory l.y (upto_length l.invariant.rows) c.loop-y-test.true).1 _ _ called in
    record { rows = upto_more l.invariant.rows c.requires.drawable.1 c.loop-y-test.true c.row.new.arg2 (all 0).0; row = record { at = λ n. (all n).1 } }

pub returns : goal.returns
returns g c = upto_all c.loop-y.invariant.rows (omega arith)
