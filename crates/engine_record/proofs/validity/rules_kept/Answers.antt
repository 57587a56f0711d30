use Rattle.std.proofs.Common.{◌≡◌, true, ◌&&◌, sym, ◌∙◌}
use borrow.Author.Tests.{not-true, not-false}
use Rattle.engine_record.proofs.Rules.{numbers, valid-not, valid-not-settled, valid-rest, settled}
use Rattle.word.proofs.Tests.{and-true}
use Rattle.engine_record.specs.declared.EngineRecord.{EngineRecord}
use Rattle.engine_record.specs.Rules.{number_rules, windows_rule, batch_rules, pending_rule}
use Rattle.engine_record.proofs.validity.rules_kept.Goals.{After-pending_counts_match-counts, Else-not-numbers_valid, Else-not-windows-batches}
use Rattle.engine_record.proofs.validity.rules_kept.Goals as goal

right : (c : Else-not-numbers_valid) → number_rules c.args.engine.now ≡ true
right c = sym c.numbers_valid.ensures ∙ not-false _ c.if-not-numbers_valid.false-raw

pub returns-then-not-numbers_valid : goal.returns-then-not-numbers_valid
returns-then-not-numbers_valid c = valid-not c.args.engine.now (sym c.numbers_valid.ensures ∙ not-true _ c.if-not-numbers_valid.true-raw)

pub batches_valid-batches-requires : goal.batches_valid-batches-requires
batches_valid-batches-requires c =
    let n = numbers c.args.engine.now (right (goal.at.batches_valid-batches-requires c).Else-not-numbers_valid) in
    (n.ring.small, n.below, c.requires)

-- the tests together
tested : (c : After-pending_counts_match-counts) → (c.windows_valid-windows.result && c.batches_valid-batches.result && c.pending_counts_match-counts.result)
    ≡ settled c.args.engine.now
tested c = rw (c.pending_counts_match-counts.ensures, c.batches_valid-batches.ensures, c.windows_valid-windows.ensures)

pub returns-then-not-windows-batches : goal.returns-then-not-windows-batches
returns-then-not-windows-batches c =
    valid-not-settled c.args.engine.now (right (goal.at.returns-then-not-windows-batches c).Else-not-numbers_valid) (sym (tested (goal.at.returns-then-not-windows-batches c).After-pending_counts_match-counts) ∙ not-true _ c.if-not-windows-batches.true-raw)

all : (c : Else-not-windows-batches) → settled c.args.engine.now ≡ true
all c = sym (tested c.before) ∙ not-false _ c.if-not-windows-batches.false-raw

pub staged_valid-requires : goal.staged_valid-requires
staged_valid-requires c =
    let engine : EngineRecord = c.args.engine.now in
    let x = and-true (windows_rule engine && batch_rules engine) (pending_rule engine) (all c) in
    (right (goal.at.staged_valid-requires c).Else-not-numbers_valid, (and-true (windows_rule engine) (batch_rules engine) x.0).1)

pub returns : goal.returns
returns c =
    c.staged_valid.ensures ∙ valid-rest c.args.engine.now (right (goal.at.returns c).Else-not-numbers_valid) (all (goal.at.returns c).Else-not-windows-batches)
