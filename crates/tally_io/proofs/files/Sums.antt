-- The loop over the arguments makes the sums of the theorem over files.
use mathlib.Core.Path.{◌≡◌}
use mathlib.Core.Bool.{false}
use native.Mathlib.Omega.{arith}
use Rattle.totals.specs.declared.FilesOutcome.{FilesOutcome}
use Rattle.totals.specs.Files.{Refused}
use Rattle.tally.proofs.Order.{promise as tally-sums}
use Rattle.tally_io.specs.Kinds.{AddsOf}
use Rattle.tally_io.specs.Sums.{TooMuch, ArgumentSums}

too_much : (r : FilesOutcome) → Refused (AddsOf false) r.answer → TooMuch r.answer.totals
unfolding AddsOf
too_much r R = record {
  file = R.file;
  large = λ fits. let zero : r.answer.refusal ≡ 0 = (R.refused.adds fits).0 in let large : r.answer.refusal ≡ 19 = R.refusal in absurd (omega (arith, zero, large));
}

pub promise : ArgumentSums
unfolding AddsOf
promise totals number r F = record {
  files = F.files;
  sums = tally-sums.sums totals r.answer.totals F.files F.added;
  all = F.all;
  refused = λ n. let R = F.refused n in (R.0.refusal, too_much r R.0);
}
