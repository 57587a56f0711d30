use Prim.Native.Nat.{ℕ}
use mathlib.Core.Path.{sym, subst}
use native.Mathlib.Omega.{arith}
use lib.Seq.{length-take-le}
use Rattle.records.specs.Reading.{Lies}
use Rattle.records.proofs.Onward.{record_held, record_exact, record_takes}
use Rattle.records.proofs.take_record.Goals as goal

pub slice_bounds-copy_in-end : goal.slice_bounds-copy_in-end
slice_bounds-copy_in-end c =
    sym (length-take-le c.min-taken.result c.args.input.now (omega arith))

pub copy_in-requires : goal.copy_in-requires
copy_in-requires c =
    let size = length-take-le c.min-taken.result c.args.input.now (omega arith) in
    record { starts = omega arith; fits = omega arith }

pub returns : goal.returns
returns c =
    let d = c.decide.ensures in
    let least = c.min-taken.ensures in
    let want = c.bytes_wanted-wanted.ensures in
    let copy = c.copy_in in (
      omega (arith, d.2, least),
      subst (λ (n : ℕ). Lies c.args.edition c.decide.result.found n) copy.auto.ring d.1,
      record_takes c.args.edition c.args.have c.args.held.now c.args.input.now _ _ c.decide.result _ want.0 want.1 c.requires.0 copy.auto.ring least copy.ensures d.0 d.2,
      record_exact c.args.edition c.args.have c.args.held.now c.args.input.now _ _ c.decide.result _ want.0 want.1 c.requires.0 copy.auto.ring least copy.ensures d.0,
      record_held c.args.edition c.args.have c.args.held.now c.args.input.now _ _ c.decide.result _ want.0 want.1 c.requires.0 copy.auto.ring least copy.ensures d.0,
    )
