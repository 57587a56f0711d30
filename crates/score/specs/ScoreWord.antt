-- "a big-endian 32-bit word with the reader's score bits"; "A score word outside 0 to 1, or NaN, prints `bad score`" (02, request 14).
use Rattle.std.specs.Prelude.{ℕ, Bool}
use Rattle.std.specs.Float.{binary32}
use Rattle.std.specs.Float.Ieee.{of_bits}
use Rattle.score.specs.Coverage.{is_score}

-- the f32 of these bits is a score (02, request 1); -0.0 is one, and no NaN is
unfoldable pub is_score_word : ℕ → Bool
is_score_word word = is_score (of_bits binary32 word)
