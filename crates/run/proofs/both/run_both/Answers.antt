use mathlib.Core.List.{List}
use mathlib.Core.Path.{sym, ap, ◌∙◌}
use Prim.Native.Nat.{ℕ}
use Rattle.engine.specs.Run.{run_result, run_memory}
use Rattle.run.proofs.both.run_both.Goals as goal

pub returns : goal.returns
returns c =
    let f = c.run_by-fast in
    let s = c.run_by-slow in
    let a = c.args in
    λ e.
    record {
      answers = f.ensures.0 ∙ (ap (λ (m : List ℕ). run_result a.engine a.ring.now m) e ∙ sym s.ensures.0);
      memory = f.ensures.1 ∙ (ap (λ (m : List ℕ). run_memory a.engine a.ring.now m) e ∙ sym s.ensures.1);
    }
