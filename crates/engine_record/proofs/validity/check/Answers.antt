use Rattle.std.proofs.Common.{◌≡◌, true, sym, ◌∙◌, arith}
use borrow.Author.Tests.{not-true, not-false}
use Rattle.engine_record.specs.Rules.{valid}
use Rattle.engine_record.proofs.Rules.{valid_facts, ready-within}
use Rattle.engine_record.proofs.Slots.{ready_most}
use Rattle.engine_record.proofs.Checking.{checked_broken, checked_kept}
use Rattle.engine_record.proofs.validity.check.Goals.{Else-not-rules_kept}
use Rattle.engine_record.proofs.validity.check.Goals as goal

kept : (c : Else-not-rules_kept) → valid c.args.engine.now ≡ true
kept c = sym c.rules_kept.ensures ∙ not-false _ c.if-not-rules_kept.false-raw

pub returns-then-not-rules_kept-clause-found : goal.returns-then-not-rules_kept-clause-found
returns-then-not-rules_kept-clause-found c = sym (checked_broken c.args.engine.now (sym c.rules_kept.ensures ∙ not-true _ c.if-not-rules_kept.true-raw))

pub ready_bytes-requires : goal.ready_bytes-requires
ready_bytes-requires c =
    let v = valid_facts c.args.engine.now (kept (goal.at.ready_bytes-requires c).Else-not-rules_kept) in
    omega (arith, ready-within c.args.engine.now v (omega (arith, ready_most c.args.engine.now.slots)), v.numbers.ring.small)

pub returns-clause-found : goal.returns-clause-found
returns-clause-found c =
    rw (c.ready_bytes.ensures, c.ready_slots-ready.ensures.0) (sym (checked_kept c.args.engine.now (kept (goal.at.returns-clause-found c).Else-not-rules_kept)))
