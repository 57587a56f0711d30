use mathlib.Core.Path.{sym, ◌∙◌}
use Rattle.std.proofs.Common.{rules}
use Rattle.encoder.proofs.Written.{second-forbids, second-writes}
use Rattle.encoder.proofs.shaded.encode_shaded.Goals as goal

pub returns-in_err-bank : goal.returns-in_err-bank
returns-in_err-bank c =
    let f = second-forbids c.args.fields c.args.buffer.now c.args.steps _ (sym c.in_err-bank.was ∙ c.bank.ensures) in
    search rules

pub returns : goal.returns
returns c =
    second-writes c.args.fields c.args.buffer.now c.args.steps _ (sym (c.in_ok-bank.was) ∙ c.bank.ensures) _ c.shaded_words_of.ensures _ c.write_words.ensures.0 _ c.write_words.ensures.1
