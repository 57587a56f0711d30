use Rattle.std.proofs.Common.{rules, true, false}
use Rattle.record_bytes.proofs.Cases.{judged, is_none, is_some}
use Rattle.record_bytes.proofs.reading.decode.Goals as goal

pub returns-then-not-rule-fixed_right : goal.returns-then-not-rule-fixed_right
returns-then-not-rule-fixed_right c =
    let h = c.in-Some.ensures.cases in
    is_none _ _ (judged _ _ _ c.is_number-rule.result c.fixed_right.result c.slots_right.result false h.same (search rules) c.word_at.ensures c.is_number-rule.ensures c.fixed_right.ensures c.slots_right.ensures c.if-not-rule-fixed_right.true) c.no_record-then-not-rule-fixed_right.ensures

pub returns : goal.returns
returns c =
    let h = c.in-Some.ensures.cases in
    is_some _ _ _ h.same (judged _ _ _ c.is_number-rule.result c.fixed_right.result c.slots_right.result true h.same (search rules) c.word_at.ensures c.is_number-rule.ensures c.fixed_right.ensures c.slots_right.ensures c.if-not-rule-fixed_right.false) c.record_in.ensures
