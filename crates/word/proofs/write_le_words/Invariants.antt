use mathlib.Core.Path.{◌≡◌}
use lib.ListN.{length, take}
use Rattle.word.specs.Word.{words_bytes}
use Rattle.word.specs.Splice.{spliced}
use Rattle.word.proofs.write_le_words.Given as goal

-- the words passed are written, all other bytes as they were
abbrev pub invariant-loop-k : goal.invariant-loop-k
invariant-loop-k l =
    (length l.bytes ≡ length l.initial.bytes) × (l.bytes ≡ spliced l.at (words_bytes (take l.k l.words)) l.initial.bytes)
