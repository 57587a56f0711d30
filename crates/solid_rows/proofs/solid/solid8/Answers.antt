use Rattle.std.proofs.Common.{arith, rules, ap, ◌∙◌, ℕ, ◌-◌, get_or}
use Rattle.lanes.proofs.Laws.{grown}
use Rattle.plan.specs.Blend.{duo}
use Rattle.solid_rows.proofs.solid.solid8.Goals as goal

pub loop-i-preserved : goal.loop-i-preserved
loop-i-preserved c =
    let l = c.loop-i in record {
      sized = search rules;
      laid = grown _ l.r l.i _ (omega (arith, l.invariant.sized)) l.invariant.laid (c.over_two.ensures ∙ ap (λ (n : ℕ). duo (65535 - n) 255 (get_or c.args.d.now l.i 0) c.args.s.rest) c.half.ensures);
    }
