use native.Mathlib.Omega.{arith}
use Rattle.script_player.proofs.Whole.{set-up-words, played-short, played-refused, played-done, count_small}
use Rattle.script_player.proofs.play.Goals as goal

pub returns-then-answers-lt24 : goal.returns-then-answers-lt24
returns-then-answers-lt24 c = played-short _ _ _ _ _ c.if-answers-lt24.true

pub returns-then-words-ne0 : goal.returns-then-words-ne0
returns-then-words-ne0 c =
    let room = c.if-answers-lt24.false in
    let words = set-up-words _ _ _ c.set_up-reply.ensures c.answer_words-words.ensures in
    played-refused _ _ _ _ _ _ _ room words c.if-words-ne0.true c.write_le_words.ensures

pub overflow_add-result : goal.overflow_add-result
overflow_add-result c =
    let p = c.play_calls in
    let w = c.write_le_words in
    omega (arith, count_small _ _ w.new.bytes _ _ _ _ (omega (arith, w.auto.bytes, c.if-answers-lt24.false)) p.ensures p.auto.answers, w.auto.bytes, c.well_formed.1.1.1.1.1.1.1.0.0)

pub returns : goal.returns
returns c =
    let room = c.if-answers-lt24.false in
    let words = set-up-words _ _ _ c.set_up-reply.ensures c.answer_words-words.ensures in
    played-done _ _ _ _ _ room (rw words at c.if-words-ne0.false) _ _ _ _ _ _ _ c.set_up-reply.ensures words c.write_le_words.ensures c.play_calls.ensures
