use mathlib.Core.Path.{sym, ap, ◌∙◌}
use Prim.Native.Nat.{ℕ}
use lib.ListN.{length}
use borrow.Author.Tests.{not-true, not-false}
use Rattle.std.proofs.Common.{rules}
use Rattle.encoder.specs.declared.fields.Fields.{Fields}
use Rattle.encoder.specs.Forms.{first_form}
use Rattle.encoder.specs.Encoder as encoder
use Rattle.encoder.specs.Tint.{tint_fields, of_encoder}
use Rattle.encoder.proofs.tint.Cases.{bad_score, scored}
use Rattle.encoder.proofs.tint.encode_tint.Goals as goal

pub returns-then-not-is_score : goal.returns-then-not-is_score
returns-then-not-is_score c =
    let a = c.args in
    bad_score a.score a.tint a.output a.buffer.now
    (sym c.is_score.ensures ∙ not-true c.is_score.result c.if-not-is_score.true-raw)

pub returns-in_err-encode : goal.returns-in_err-encode
returns-in_err-encode c =
    let a = c.args in
    let fields = c.fields_of-fields.ensures ∙ ap (λ (n : ℕ). tint_fields a.tint n a.output) c.coverage_of.ensures in
    let done = scored a.score a.tint a.output a.buffer.now (sym c.is_score.ensures ∙ not-false c.is_score.result c.if-not-is_score.false-raw) in
    let encode = c.encode.ensures in
    let answer = ap of_encoder (sym c.in_err-encode.was ∙ encode.0 ∙ ap (λ (f : Fields). encoder.answer_of (first_form f) (length a.buffer.now)) fields) ∙ done.0 in
    let after = encode.1 ∙ ap (λ (f : Fields). encoder.buffer_after (first_form f) a.buffer.now) fields ∙ done.1 in
    search rules

pub returns : goal.returns
returns c =
    let a = c.args in
    let fields = c.fields_of-fields.ensures ∙ ap (λ (n : ℕ). tint_fields a.tint n a.output) c.coverage_of.ensures in
    let done = scored a.score a.tint a.output a.buffer.now (sym c.is_score.ensures ∙ not-false c.is_score.result c.if-not-is_score.false-raw) in
    let encode = c.encode.ensures in (
      ap of_encoder (sym (c.in_ok-encode.was) ∙ encode.0 ∙ ap (λ (f : Fields). encoder.answer_of (first_form f) (length a.buffer.now)) fields) ∙ done.0,
      encode.1 ∙ ap (λ (f : Fields). encoder.buffer_after (first_form f) a.buffer.now) fields ∙ done.1,
    )
