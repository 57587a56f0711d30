-- The lines of totals (02, request 14, leaves their form free: docs/DECISIONS, "What the papers leave free"), as bytes of ASCII.
use Rattle.std.specs.Prelude.{cond, List, [], ◌∷◌, ◌++◌, ℕ, ◌+◌, eqb}
use Rattle.text.specs.Decimal.{decimal}
use Rattle.totals.specs.declared.Totals.{Totals}
use Rattle.totals.specs.declared.Answer.{Answer}

-- the name of the count at a position, and a space: `batches`, `tasks`, `output_pixels`, `blended_pixels`, `fault_20` to `fault_28`, `records_without_score`
unfoldable pub label_of : ℕ → List ℕ
label_of k =
    cond (eqb k 0) (98 ∷ 97 ∷ 116 ∷ 99 ∷ 104 ∷ 101 ∷ 115 ∷ 32 ∷ [])
    (cond (eqb k 1) (116 ∷ 97 ∷ 115 ∷ 107 ∷ 115 ∷ 32 ∷ [])
    (cond (eqb k 2) (111 ∷ 117 ∷ 116 ∷ 112 ∷ 117 ∷ 116 ∷ 95 ∷ 112 ∷ 105 ∷ 120 ∷ 101 ∷ 108 ∷ 115 ∷ 32 ∷ [])
    (cond (eqb k 3) (98 ∷ 108 ∷ 101 ∷ 110 ∷ 100 ∷ 101 ∷ 100 ∷ 95 ∷ 112 ∷ 105 ∷ 120 ∷ 101 ∷ 108 ∷ 115 ∷ 32 ∷ [])
    (cond (eqb k 13) (114 ∷ 101 ∷ 99 ∷ 111 ∷ 114 ∷ 100 ∷ 115 ∷ 95 ∷ 119 ∷ 105 ∷ 116 ∷ 104 ∷ 111 ∷ 117 ∷ 116 ∷ 95 ∷ 115 ∷ 99 ∷ 111 ∷ 114 ∷ 101 ∷ 32 ∷ [])
    ((102 ∷ 97 ∷ 117 ∷ 108 ∷ 116 ∷ 95 ∷ []) ++ (decimal (k + 16) ++ (32 ∷ [])))))))

-- `NAME COUNT` for each count from a position on, each ended by a line feed
unfoldable pub count_lines : (k : ℕ) → (counts : List ℕ) → List ℕ
count_lines k [] = []
count_lines k (count ∷ counts) = label_of k ++ (decimal count ++ (10 ∷ count_lines (k + 1) counts))

abbrev pub totals_text : Totals → List ℕ
totals_text totals = count_lines 0 totals.counts

-- `refused N` after them, if the last lot was refused
unfoldable pub refused_text : (refusal : ℕ) → List ℕ
refused_text refusal = cond (eqb refusal 0) [] ((114 ∷ 101 ∷ 102 ∷ 117 ∷ 115 ∷ 101 ∷ 100 ∷ 32 ∷ []) ++ (decimal refusal ++ (10 ∷ [])))

abbrev pub answer_text : Answer → List ℕ
answer_text answer = totals_text answer.totals ++ refused_text answer.refusal

-- how many files of how many are done: `N of M files`; the cursor goes back for the next, or after the last the line is ended
unfoldable pub progress_text : (files of : ℕ) → List ℕ
progress_text files of = decimal files ++ ((32 ∷ 111 ∷ 102 ∷ 32 ∷ []) ++ (decimal of ++ ((32 ∷ 102 ∷ 105 ∷ 108 ∷ 101 ∷ 115 ∷ []) ++ (cond (eqb files of) 10 13 ∷ []))))
