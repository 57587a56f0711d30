-- What the editions of a replay file ask of the engine (02, request 14).
use Rattle.std.specs.Prelude.{List, [], ◌∷◌, Bool, true, cond, ◌&&◌, ℕ, leb, length, drop}
use Rattle.word.specs.Word.{be32_at}
use Rattle.reset.specs.declared.ResetRule.{ResetRule}
use Rattle.reset.specs.declared.ResetRule.TheVariants.{Unblended, SrcOver}
use Rattle.score.specs.ScoreWord.{is_score_word}
use Rattle.records.specs.declared.Edition.{Edition}
use Rattle.records.specs.declared.Edition.TheVariants.{First, Second}
use Rattle.records.specs.Records.{Entry}

-- "Replay of edition 1 files must go on with 0x00001300" (02, request 2); edition 2's "engine resets 0x090 to 0x00000B01"
abbrev pub reset_rule_of : Edition → ResetRule
reset_rule_of First = Unblended
reset_rule_of Second = SrcOver

-- "each record carries after the desk byte a big-endian 32-bit word with the reader's score bits": whether they are a score's. A record of
-- edition 1 has no score to be bad
abbrev pub score_holds : Edition → Entry → Bool
score_holds First entry = true
score_holds Second entry = is_score_word (be32_at entry.batch 0)

-- what is submitted of a record: its client, and the batch behind the score
abbrev pub submission : Edition → Entry → Entry
submission First entry = entry
submission Second entry = record { client = entry.client; batch = drop 4 entry.batch }

-- of these records; one with a bad score "isn't submitted, and the next is read"
unfoldable pub scored : List Entry → List Entry
scored [] = []
scored (entry ∷ entries) = cond (score_holds Second entry) (submission Second entry ∷ scored entries) (scored entries)

abbrev pub submitted_entries : Edition → List Entry → List Entry
submitted_entries First entries = entries
submitted_entries Second entries = scored entries

-- ---- of a record that lies in the buffer up to `end` (specs/Reading)

-- Internal: the score's word stands at 5; bytes that do not lie there have none
abbrev pub score_in : Edition → (held : List ℕ) → (end : ℕ) → Bool
score_in First held end = true
score_in Second held end = (leb 9 end && leb end (length held)) && is_score_word (be32_at held 5)
