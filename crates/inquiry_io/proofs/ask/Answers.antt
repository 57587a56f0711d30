use Rattle.std.proofs.Common.{rules, [], refl, replicate}
use Rattle.inquiry_io.specs.Reached.{Reached}
use Rattle.inquiry_io.proofs.ask.Goals as goal

pub returns : goal.returns
returns g c =
    let start : Reached c.args.question c.start.result (replicate 32773 0) = record { seen = []; stands = c.start.ensures _ _ (search rules) } in
    let h = c.read_all.ensures c.args.question (record { same = refl; reached = start }) in
    record { held = c.read_all.new.reader.held; reached = rw h.same at h.reached }
