use Prim.Native.Nat.{ℕ}
use mathlib.Core.Path.{◌≡◌, ap, ◌∙◌}
use mathlib.Core.List.{List}
use Rattle.records.specs.declared.Edition.TheVariants.{First}
use Rattle.batch.specs.Walk.{words_in}
use Rattle.lines.specs.Lines.{file_reset}
use Rattle.register.specs.declared.bank.Bank.{Bank}
use Rattle.batch.specs.Batch.{DecodedBatch, decode_batch, validation_of}
use Rattle.provenance.proofs.explain.Batch.{explained-none, explained-fault}
use Rattle.provenance.proofs.explain.explain.Goals.{After-validate-judged}
use Rattle.provenance.proofs.explain.explain.Goals as goal

-- the words of the batch, and what they say
abbrev Ws : After-validate-judged → List ℕ
Ws c = words_in c.args.batch

abbrev said : After-validate-judged → DecodedBatch
said c = decode_batch c.args.bounds (file_reset First) (Ws c)

judged : (c : After-validate-judged) → c.validate-judged.result ≡ validation_of (said c)
judged c =
    c.validate-judged.ensures ∙ ap (λ (b : Bank). validation_of (decode_batch c.args.bounds b (Ws c))) c.reset.ensures

pub returns-in-None : goal.returns-in-None
returns-in-None c =
    explained-none (Ws (goal.at.returns-in-None c).After-validate-judged) (said (goal.at.returns-in-None c).After-validate-judged) c.validate-judged.result (judged (goal.at.returns-in-None c).After-validate-judged) c.in-None.is

pub returns-in-Some : goal.returns-in-Some
returns-in-Some c =
    rw (c.word_at.ensures, c.detail_of.ensures, c.register_at-register.ensures)
    (explained-fault (Ws (goal.at.returns-in-Some c).After-validate-judged) (said (goal.at.returns-in-Some c).After-validate-judged) c.validate-judged.result (judged (goal.at.returns-in-Some c).After-validate-judged) _ c.in-Some.is)
