use mathlib.Core.Path.{sym, ap, ◌∙◌}
use mathlib.Core.List.{List}
use Prim.Native.Nat.{ℕ, ◌-◌}
use native.Mathlib.Omega.{arith}
use lib.ListN.{length, drop, length-take, length-drop}
use lib.Seq.{take_all, length-take-le}
use Rattle.word.specs.Splice.{spliced}
use Rattle.ring.specs.Copied.{copied_in}
use Rattle.ring.proofs.Copied.{copied-one}
use Rattle.ring.proofs.copy_in.Goals as goal

pub returns-then-batch-tail : goal.returns-then-batch-tail
returns-then-batch-tail c =
    let a = c.args in
    c.copy_at.ensures ∙ sym (copied-one a.ring.now a.offset a.batch.now (omega arith))

pub slice_bounds-copy_at-end : goal.slice_bounds-copy_at-end
slice_bounds-copy_at-end c =
    let a = c.args in
    sym (length-take-le (length a.ring.now - a.offset) a.batch.now (omega arith))

pub copy_at-requires-2 : goal.copy_at-requires-2
copy_at-requires-2 c = simp length-take (omega arith)

pub returns : goal.returns
unfolding copied_in
returns c =
    let a = c.args in
    let tail = length a.ring.now - a.offset in
    let rest = drop tail a.batch.now in
    c.copy_at-3.ensures
    ∙ ap (λ (l : List ℕ). spliced 0 l c.copy_at-2.new.to) (take_all (length a.batch.now - tail) rest (simp length-drop (omega arith)))
    ∙ ap (spliced 0 rest) c.copy_at-2.ensures
