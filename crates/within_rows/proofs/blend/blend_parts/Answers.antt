use Rattle.std.proofs.Common.{arith, rules}
use Rattle.std.proofs.lemmas.Grind.{common_steps}
use Rattle.lanes.proofs.Passes.{to_end}
use Rattle.within_rows.proofs.Rows.{within_parts, middle_at, past_middle, past_at}
use Rattle.within_rows.proofs.blend.blend_parts.Goals as goal

pub returns-then-from-to : goal.returns-then-from-to
returns-then-from-to c =
    let f = c.blend_row in
    within_parts c.args.p.rule _ _ _ _ f.new.d c.args.to c.args.from c.args.n c.requires.1
    (λ j l. grind (arith, common_steps, c.requires.0)) (λ j l. grind (arith, common_steps, c.requires.0))
    (λ j l. middle_at _ _ _ c.args.to c.args.n j (search rules) (grind (arith, common_steps, c.requires.0)) l) (λ j l. grind (arith, common_steps, c.requires.0))
    (λ j l. past_middle _ _ _ _ c.args.to c.args.n j c.split_at_mut-low.ensures.value (search rules) (grind (arith, common_steps, c.requires.0)) (grind (arith, common_steps, c.requires.0)) l)
    (to_end _ _ _ _ _ _ (grind (arith, common_steps, c.requires.0)) f.ensures)

pub returns-else-from-to : goal.returns-else-from-to
returns-else-from-to c =
    let f = c.blend_row-else-from-to in
    within_parts c.args.p.rule _ _ _ _ f.new.d c.args.to c.args.from c.args.n c.requires.1
    (λ j l. grind (arith, common_steps, c.requires.0)) (λ j l. grind (arith, common_steps, c.requires.0)) (λ j l. grind (arith, common_steps, c.requires.0)) (λ j l. grind (arith, common_steps, c.requires.0))
    (λ j l. past_at _ _ _ _ c.args.to _ c.args.n j (omega arith) c.split_at_mut-low-else-from-to.ensures.value (grind (arith, common_steps, c.requires.0)) (grind (arith, common_steps, c.requires.0)) l)
    (to_end _ _ _ _ _ _ (grind (arith, common_steps, c.requires.0)) f.ensures)
