use mathlib.Core.Path.{◌≡◌}
use Prim.Native.Nat.{◌-◌, ◌≤◌}
use Rattle.totals.specs.Files.{AddsFiles}
use Rattle.tally_io.specs.Kinds.{AddsOf}
use Rattle.tally_io.proofs.files.add_arguments.Given as goal

abbrev pub invariant-loop-index : goal.invariant-loop-index
invariant-loop-index g l = record {
  begun : l.first ≤ l.index;
  few : l.index - l.first ≤ l.count - l.first;
  none_refused : l.sum.answer.refusal ≡ 0;
  added : AddsFiles (AddsOf l.lots) l.initial.sum.answer.totals (l.index - l.first) l.sum;
}
