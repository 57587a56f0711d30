use mathlib.Core.Path.{refl}
use native.Mathlib.Omega.{arith}
use Rattle.tally_io.proofs.files.Files.{files-none, files_turn}
use borrow.Author.Rules.{rules}
use Rattle.tally_io.proofs.files.add_arguments.Goals as goal

pub loop-index-init : goal.loop-index-init
loop-index-init g c = record { begun = search rules; few = search rules; none_refused = refl; added = files-none _ _ _ (omega arith) }

pub add_next-sum-requires : goal.add_next-sum-requires
add_next-sum-requires g c =
    let l = c.loop-index in
    omega (arith, l.invariant.added.all l.invariant.none_refused)

pub loop-index-preserved : goal.loop-index-preserved
loop-index-preserved g c =
    let l = c.loop-index in
    record {
      begun = search rules;
      few = omega (arith, l.invariant.begun, c.loop-index-test.true);
      none_refused = search rules;
      added = files_turn _ _ _ l.index l.sum _ l.invariant.begun l.invariant.none_refused c.add_next-sum.ensures l.invariant.added;
    }
