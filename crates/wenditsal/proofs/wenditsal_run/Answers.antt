use Rattle.calls.proofs.Reporting.{reported, ran-small, run-answered}
use Rattle.wenditsal.proofs.wenditsal_run.Goals as goal

pub run_words-requires : goal.run_words-requires
run_words-requires c = ran-small _ _ _ _ c.run-ran.ensures.0

pub returns : goal.returns
returns c =
    run-answered _ _ _ _ _ _ _ _ _ c.decode-record.ensures c.run-ran.ensures.0 c.run-ran.ensures.1 (reported _ _ _ _ _ _ _ c.run_words.ensures c.write_answer.ensures.0 c.write_answer.ensures.1 c.write_answer.ensures.2)
