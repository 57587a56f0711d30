-- The model's answers as bytes: each is six little-endian words of 32 bits, those of crate engine, specs/Answers.
use Rattle.std.specs.Prelude.{List, [], ◌∷◌, ◌++◌, ℕ}
use Rattle.word.specs.Word.{words_bytes}
use Rattle.engine.specs.Answers.{short_answer}
use Rattle.model.specs.Calls.{Call, opens, submit, run, pending, begin, piece, cancel, close, Answer, opened, accepted, completed, ready, missing, done, refused}

unfoldable pub plain_words : Answer → List ℕ
plain_words (opened client) = short_answer 0 client
plain_words (accepted ticket) = short_answer 0 ticket
plain_words (completed client ticket v) = 0 ∷ client ∷ ticket ∷ v.status ∷ v.fault ∷ v.offset ∷ []
plain_words (ready count) = short_answer 0 count
plain_words (missing bytes) = short_answer 0 bytes
plain_words done = short_answer 0 0
plain_words (refused number) = short_answer number 0

-- a piece: 0 and the bytes still to come, or, of the last, 1 and the ticket (02, 6)
unfoldable pub piece_answer_words : Answer → List ℕ
piece_answer_words (opened client) = plain_words (opened client)
piece_answer_words (accepted ticket) = 0 ∷ 1 ∷ ticket ∷ 0 ∷ 0 ∷ 0 ∷ []
piece_answer_words (completed client ticket v) = plain_words (completed client ticket v)
piece_answer_words (ready count) = plain_words (ready count)
piece_answer_words (missing bytes) = 0 ∷ 0 ∷ bytes ∷ 0 ∷ 0 ∷ 0 ∷ []
piece_answer_words done = plain_words done
piece_answer_words (refused number) = plain_words (refused number)

-- what a call is answered
abbrev pub answer_words : Call → Answer → List ℕ
answer_words (opens w) = plain_words
answer_words (submit client bytes) = plain_words
answer_words run = plain_words
answer_words (pending client) = plain_words
answer_words (begin client total) = plain_words
answer_words (piece client bytes) = piece_answer_words
answer_words (cancel client) = plain_words
answer_words (close client) = plain_words

-- the answers of calls, one each
unfoldable pub answer_bytes : List Call → List Answer → List ℕ
answer_bytes [] answers = []
answer_bytes (call ∷ calls) [] = []
answer_bytes (call ∷ calls) (a ∷ answers) = words_bytes (answer_words call a) ++ answer_bytes calls answers
