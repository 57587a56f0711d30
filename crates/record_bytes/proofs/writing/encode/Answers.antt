use Rattle.std.proofs.Common.{List, ℕ, ap, ◌∙◌, arith}
use Rattle.record_bytes.specs.Written.{written}
use Rattle.record_bytes.proofs.Cases.{wrote, left_alone}
use Rattle.record_bytes.proofs.writing.encode.Goals as goal

pub returns-in-Some : goal.returns-in-Some
returns-in-Some c =
    wrote c.args.engine _ _ _ _ _ _ _ (omega arith) c.head_words.ensures c.staged_words.ensures c.write_le_words.ensures
    (rw (c.as_flattened.ensures.value ∙ c.clients_words.ensures) at c.write_le_words-in-Some.ensures)
    (rw (c.as_flattened-in-Some.ensures.value ∙ c.slots_words.ensures) at c.write_le_words-in-Some-2.ensures)
    c.write_le_words-in-Some-3.ensures
    ∙ ap (λ (bytes : List ℕ). written c.args.engine bytes) c.in-Some.ensures.cases.same

pub returns-in_default : goal.returns-in_default
returns-in_default c = left_alone _ _ c.in_default.ensures.cases
