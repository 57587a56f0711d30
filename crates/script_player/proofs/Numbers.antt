-- The words of what is answered are those of crate claims' answer.
use Rattle.std.proofs.Common.{Result, Ok, Err}
use mathlib.Core.Path.{◌≡◌, refl}
use mathlib.Core.Bool.{Bool, true, false, cond}
use Prim.Native.Nat.{ℕ, zero, suc}
use Rattle.queue.specs.declared.Answer.{Answer as QueueAnswer}
use Rattle.queue.specs.declared.Answer.TheVariants.{Done, Opened, Accepted, Ready, Missing}
use Rattle.queue.specs.declared.Refusal.{Refusal}
use Rattle.queue.specs.Answers.{number_of, refusal_numbered, refusal_number_of, value_of, answer_unless_refused}
use Rattle.engine.specs.declared.Completion.{Completion}
use Rattle.engine.specs.Outcome.{run_refusal_of as refusalOf, values_of}
use Rattle.model.specs.Calls.{Answer, done, refused}
use Rattle.claims.specs.Engine.{answer_or_refusal, model_reply_of, completion}
use Rattle.claims.proofs.Cases.{refuses}
use Rattle.engine.specs.Answers.{short_answer, piece_words, run_words}
use Rattle.script_player.specs.Answers.{plain_words, piece_answer_words}

-- an answer of one number
pub value-words : (a : Result QueueAnswer Refusal) (f : ℕ → Answer) → ((v : ℕ) → plain_words (f v) ≡ short_answer 0 v) → plain_words (answer_or_refusal (refusal_number_of a) (f (value_of a))) ≡ short_answer (refusal_number_of a) (value_of a)
unfolding plain_words answer_or_refusal
value-words (Err r) f h = rw (refuses r (f 0))
value-words (Ok Done) f h = h 0
value-words (Ok (Opened v)) f h = h v
value-words (Ok (Accepted v)) f h = h v
value-words (Ok (Ready v)) f h = h v
value-words (Ok (Missing v)) f h = h v

-- no number
pub silent-words : (n : ℕ) → plain_words (answer_or_refusal (refusal_number_of (answer_unless_refused n Done)) done) ≡ short_answer (refusal_number_of (answer_unless_refused n Done)) (value_of (answer_unless_refused n Done))
unfolding plain_words answer_or_refusal answer_unless_refused
silent-words zero = refl
silent-words (suc n) = rw (refuses (refusal_numbered (suc n)) done)

-- a piece's two
pub two-words : (n : ℕ) (b : Bool) (ticket left : ℕ) →
    piece_answer_words (answer_or_refusal (refusal_number_of (answer_unless_refused n (cond b (Accepted ticket) (Missing left)))) (model_reply_of (answer_unless_refused n (cond b (Accepted ticket) (Missing left)))))
    ≡ piece_words (answer_unless_refused n (cond b (Accepted ticket) (Missing left)))
unfolding plain_words piece_answer_words answer_or_refusal answer_unless_refused
two-words zero true ticket left = refl
two-words zero false ticket left = refl
two-words (suc n) b ticket left = let r : Refusal = refusal_numbered (suc n) in rw (refuses r (refused (number_of r)))

-- run's
pub run-words : (o : Result Completion Refusal) → plain_words (answer_or_refusal (refusalOf o) (completion (values_of o))) ≡ run_words o
unfolding plain_words answer_or_refusal
run-words (Err r) = rw (refuses r (completion (values_of (Err r))))
run-words (Ok c) = refl
