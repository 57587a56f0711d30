-- The task-end marks of a batch, by its headers alone (01, "What every call owes": the task number "is the task-end marks in the
-- batch"). Neither the rules nor the registers come in.
use Rattle.std.specs.Prelude.{ℕ, zero, suc, ◌+◌, cond, List, [], ◌∷◌, eqb}
use Rattle.word.specs.Field.{field}

-- the headers that carry the mark, bit 0, where `left` words of a group are still to come
unfoldable pub task_end_count_from : ℕ → List ℕ → ℕ
task_end_count_from zero [] = 0
task_end_count_from zero (h ∷ ws) = cond (eqb (field 0 0 h) 1) 1 0 + task_end_count_from (field 15 2 h) ws
task_end_count_from (suc left) [] = 0
task_end_count_from (suc left) (w ∷ ws) = task_end_count_from left ws

abbrev pub task_end_count : List ℕ → ℕ
task_end_count words = task_end_count_from 0 words
