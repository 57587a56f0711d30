-- Run.
use mathlib.Core.Path.{◌≡◌, sym, ap, subst, ◌∙◌}
use mathlib.Core.List.{List}
use Prim.Native.Nat.{ℕ}
use lib.ListN.{length, take, drop, get_or}
use Rattle.engine_record.specs.declared.EngineRecord.{EngineRecord}
use Rattle.std.proofs.Common.{Result}
use Rattle.queue.specs.declared.Refusal.{Refusal}
use Rattle.engine.specs.declared.Completion.{Completion}
use Rattle.engine.specs.declared.RunResult.{RunResult}
use Rattle.queue.specs.Calls.{unless_refused}
use Rattle.engine.specs.Outcome.{run_refusal_of as refusalOf}
use Rattle.engine.specs.Run.{run_result, run_memory}
use Rattle.engine.proofs.Refusals.{run-allowed}
use Rattle.engine.proofs.Preservation.{run-number}
use Rattle.engine.specs.Answers.{run_words, OutcomeFitsWords}
use Rattle.engine.proofs.answers.Numbers.{run_small}
use Rattle.record_bytes.specs.Read.{record_of}
use Rattle.record_bytes.specs.Written.{written}
use Rattle.calls.specs.Calls.{Reports, Runs}
use Rattle.calls.proofs.Results.{whole, fits}

pub reported : (bytes after words : List ℕ) (o : Result Completion Refusal) (number : ℕ) (five bytesNow : List ℕ) → words ≡ run_words o → number ≡ get_or words 0 0 → five ≡ take 5 (drop 1 words) →
    bytesNow ≡ unless_refused (get_or words 0 0) bytes after → Reports bytes after o number five bytesNow
reported bytes after words o number five bytesNow w first e kept = record { number_is = first ∙ rw w; five_are = e ∙ rw w; record_is = kept ∙ rw w }

pub ran-small : (engine : EngineRecord) (ring memory : List ℕ) (ran : RunResult) → ran ≡ run_result engine ring memory → OutcomeFitsWords ran.outcome
ran-small engine ring memory ran e = rw e (run_small engine ring memory)

pub run-answered : (bytes ring memory : List ℕ) (engine : EngineRecord) (ran : RunResult) (number : ℕ) (five bytesNow memoryNow : List ℕ) → engine ≡ record_of bytes → ran ≡ run_result engine ring memory →
    memoryNow ≡ run_memory engine ring memory → Reports bytes (written ran.engine bytes) ran.outcome number five bytesNow →
    Runs bytes ring memory number five bytesNow memoryNow
run-answered bytes ring memory engine ran number five bytesNow memoryNow is e q t =
    let r : EngineRecord = record_of bytes in
    let both : ran ≡ run_result r ring memory = e ∙ ap (λ (x : EngineRecord). run_result x ring memory) is in
    let s = subst (λ (x : RunResult). Reports bytes (written x.engine bytes) x.outcome number five bytesNow) both t in
    record {
      reports = record {
        number_is = s.number_is;
        five_are = s.five_are;
        record_is =
            s.record_is
            ∙ whole bytes (run_result r ring memory).engine (refusalOf (run_result r ring memory).outcome)
            (λ z. fits bytes (run-allowed r (length ring) (length memory) (sym (run-number r ring memory) ∙ z)).ok);
      };
      memory_is = q ∙ ap (λ (x : EngineRecord). run_memory x ring memory) is;
    }
