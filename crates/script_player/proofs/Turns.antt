-- Each call of the engine is the call of crate claims, and its words are those of the answer.
use mathlib.Core.Path.{◌≡◌, refl, sym, ◌∙◌}
use mathlib.Core.List.{List}
use Prim.Native.Nat.{ℕ}
use lib.ListN.{length}
use Rattle.engine_record.specs.declared.EngineRecord.{EngineRecord}
use Rattle.engine_record.specs.Staged.{missing_bytes}
use Rattle.std.proofs.Common.{Result}
use Rattle.queue.specs.declared.Refusal.{Refusal}
use Rattle.queue.specs.declared.Answer.{Answer as QueueAnswer}
use Rattle.queue.specs.declared.Reply.{Reply}
use Rattle.queue.specs.Answers.{refusal_number_of, value_of}
use Rattle.queue.specs.Refusals.{first_refusal, submit_table, cancel_table, close_table}
use Rattle.queue.specs.Calls.{open_result, submit_result, submit_ring, begin_result, more, is_last, piece_number, piece_result, piece_ring, cancel_result, close_result, pending_answer}
use Rattle.engine.specs.declared.RunResult.{RunResult}
use Rattle.engine.specs.Run.{run_result, run_memory}
use Rattle.engine.specs.Close.{close_memory}
use Rattle.engine.specs.Answers.{short_answer, piece_words, run_words}
use Rattle.model.specs.Calls.{opens, submit, run, pending, begin, piece, cancel, close, opened, accepted, ready}
use Rattle.claims.specs.Engine.{mk_state, perform_call}
use Rattle.script_player.specs.Answers.{plain_words}
use Rattle.script_player.specs.CallsMatch.{CallMatches}
use Rattle.script_player.proofs.Numbers.{value-words, silent-words, two-words, run-words}

opened-words : (v : ℕ) → plain_words (opened v) ≡ short_answer 0 v
unfolding plain_words
opened-words v = refl

accepted-words : (v : ℕ) → plain_words (accepted v) ≡ short_answer 0 v
unfolding plain_words
accepted-words v = refl

ready_words : (v : ℕ) → plain_words (ready v) ≡ short_answer 0 v
unfolding plain_words
ready_words v = refl

module _ (engine : EngineRecord) (ring memory : List ℕ) where
  pub open_plays : (start size : ℕ) (r : Reply) (words : List ℕ) (after : EngineRecord) → r ≡ open_result engine (record { start = start; length = size }) →
      words ≡ short_answer (refusal_number_of r.answer) (value_of r.answer) → after ≡ r.engine →
      CallMatches (opens (record { start = start; length = size })) (mk_state engine ring memory) (mk_state after ring memory) words
  unfolding perform_call
  open_plays start size r words after e w g = record { answer = rw (← e) (w ∙ sym (value-words r.answer opened opened-words)); state = rw (g, e) }

  pub submit_plays : (client : ℕ) (batch : List ℕ) (r : Reply) (words ring' : List ℕ) (after : EngineRecord) → r ≡ submit_result engine ring client batch →
      ring' ≡ submit_ring engine ring client batch → words ≡ short_answer (refusal_number_of r.answer) (value_of r.answer) → after ≡ r.engine →
      CallMatches (submit client batch) (mk_state engine ring memory) (mk_state after ring' memory) words
  unfolding perform_call
  submit_plays client batch r words ring' after e q w g = record { answer = rw (← e) (w ∙ sym (value-words r.answer accepted accepted-words)); state = rw (g, e, q) }

  pub run_plays : (r : RunResult) (words memory' : List ℕ) (after : EngineRecord) → r ≡ run_result engine ring memory → memory' ≡ run_memory engine ring memory →
      words ≡ run_words r.outcome → after ≡ r.engine →
      CallMatches run (mk_state engine ring memory) (mk_state after ring memory') words
  unfolding perform_call
  run_plays r words memory' after e q w g = record { answer = rw (← e) (w ∙ sym (run-words r.outcome)); state = rw (g, e, q) }

  pub begin_plays : (client total : ℕ) (r : Reply) (words : List ℕ) (after : EngineRecord) → r ≡ begin_result engine (length ring) client total →
      words ≡ short_answer (refusal_number_of r.answer) (value_of r.answer) → after ≡ r.engine →
      CallMatches (begin client total) (mk_state engine ring memory) (mk_state after ring memory) words
  unfolding perform_call begin_result
  begin_plays client total r words after e w g = record { answer = w ∙ rw e (sym (silent-words (first_refusal (submit_table engine (length ring) client total)))); state = rw (g, e) }

  pub piece_plays : (client : ℕ) (bytes : List ℕ) (r : Reply) (words ring' : List ℕ) (after : EngineRecord) → r ≡ piece_result engine ring client bytes →
      ring' ≡ piece_ring engine ring client bytes → words ≡ piece_words r.answer → after ≡ r.engine →
      CallMatches (piece client bytes) (mk_state engine ring memory) (mk_state after ring' memory) words
  unfolding perform_call piece_result
  piece_plays client bytes r words ring' after e q w g = record {
    answer = w ∙ rw e (sym (two-words (piece_number engine ring client bytes) (is_last engine.staged (length bytes)) engine.next_ticket (missing_bytes (more engine.staged (length bytes)))));
    state = rw (g, e, q);
  }

  pub cancel_plays : (client : ℕ) (r : Reply) (words : List ℕ) (after : EngineRecord) → r ≡ cancel_result engine client →
      words ≡ short_answer (refusal_number_of r.answer) (value_of r.answer) → after ≡ r.engine →
      CallMatches (cancel client) (mk_state engine ring memory) (mk_state after ring memory) words
  unfolding perform_call cancel_result
  cancel_plays client r words after e w g = record { answer = w ∙ rw e (sym (silent-words (first_refusal (cancel_table engine client)))); state = rw (g, e) }

  pub close_plays : (client : ℕ) (r : Reply) (words memory' : List ℕ) (after : EngineRecord) → r ≡ close_result engine (length memory) client → memory' ≡ close_memory engine memory client →
      words ≡ short_answer (refusal_number_of r.answer) (value_of r.answer) → after ≡ r.engine →
      CallMatches (close client) (mk_state engine ring memory) (mk_state after ring memory') words
  unfolding perform_call close_result
  close_plays client r words memory' after e q w g = record { answer = w ∙ rw e (sym (silent-words (first_refusal (close_table engine (length memory) client)))); state = rw (g, e, q) }

  pub pending_plays : (client : ℕ) (a : Result QueueAnswer Refusal) (words : List ℕ) → a ≡ pending_answer engine client → words ≡ short_answer (refusal_number_of a) (value_of a) →
      CallMatches (pending client) (mk_state engine ring memory) (mk_state engine ring memory) words
  unfolding perform_call
  pending_plays client a words e w = record { answer = rw (← e) (w ∙ sym (value-words a ready ready_words)); state = refl }
