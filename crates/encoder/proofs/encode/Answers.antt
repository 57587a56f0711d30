use mathlib.Core.Path.{sym, ◌∙◌}
use Rattle.std.proofs.Common.{rules}
use Rattle.encoder.proofs.Written.{first-forbids, first-writes}
use Rattle.encoder.proofs.encode.Goals as goal

pub returns-in_err-bank : goal.returns-in_err-bank
returns-in_err-bank c =
    let f = first-forbids c.args.fields c.args.buffer.now _ (sym c.in_err-bank.was ∙ c.bank.ensures) in
    search rules

pub returns : goal.returns
returns c =
    first-writes c.args.fields c.args.buffer.now _ (sym (c.in_ok-bank.was) ∙ c.bank.ensures) _ c.words_of.ensures _ c.write_words.ensures.0 _ c.write_words.ensures.1
