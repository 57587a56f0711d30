use Rattle.lanes.proofs.Passes.{none_done, one-done, more-done, to_end}
use mathlib.Core.Path.{refl}
use native.Mathlib.Omega.{arith}
use borrow.Author.Rules.{rules}
use lib.ListN.{get_or}
use Rattle.lanes.proofs.bytes.copy_rest.Goals as goal

pub loop-j-init : goal.loop-j-init
loop-j-init c = record { same_length = search rules; copied = none_done _ _ _ }

pub loop-j-preserved : goal.loop-j-preserved
loop-j-preserved c = record {
  same_length = search rules;
  copied = more-done (λ l k. get_or c.args.s.now k 0) (λ l m k same. refl) _ c.loop-j.d _ c.args.a c.loop-j.j _ (omega arith) (omega arith) c.loop-j.invariant.copied (one-done _ c.loop-j.d c.loop-j.j _ (omega arith) refl);
}

pub returns : goal.returns
returns c = to_end _ _ _ _ c.loop-j.j _ (omega arith) c.loop-j.invariant.copied
