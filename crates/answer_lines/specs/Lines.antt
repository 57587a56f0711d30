-- The lines that the answers of a replay file print (02, request 10; the forms are ours: docs/DECISIONS, "Who touched a byte"), as bytes of ASCII.
use Rattle.std.specs.Prelude.{◌≡◌, List, [], ◌∷◌, ◌++◌, ℕ, ◌≤◌, length, drop, Option, Some, None, Result, Ok, Err}
use Rattle.text.specs.Line.{line_of, appended}
use Rattle.text.specs.Hex.{hex_word}
use Rattle.text.specs.Decimal.{decimal}
use Rattle.lines.specs.Lines.{spaced}
use Rattle.task_check.specs.Faults.{fault_number}
use Rattle.provenance.specs.declared.Touch.{Touch}
use Rattle.provenance.specs.declared.HeldRegister.{HeldRegister}
use Rattle.provenance.specs.declared.Explanation.{Explanation}
use Rattle.provenance.specs.declared.Refusal.{Refusal}
use Rattle.provenance.specs.Touched.{mode_number}
use Rattle.provenance.specs.Answers.{refusal_number}

-- `refused N`
unfoldable pub refused_line : Refusal → List ℕ
refused_line refusal = (114 ∷ 101 ∷ 102 ∷ 117 ∷ 115 ∷ 101 ∷ 100 ∷ 32 ∷ []) ++ (decimal (refusal_number refusal) ++ (10 ∷ []))

-- ---- who drew a byte last

-- `TICKET TASK MODE`
unfoldable pub touch_line : Touch → List ℕ
touch_line touch = decimal touch.ticket ++ (spaced (decimal touch.number) ++ (spaced (decimal (mode_number touch.mode)) ++ (10 ∷ [])))

-- or `not drawn`
unfoldable pub touched_line : Result (Option Touch) Refusal → List ℕ
touched_line (Err refusal) = refused_line refusal
touched_line (Ok None) = 110 ∷ 111 ∷ 116 ∷ 32 ∷ 100 ∷ 114 ∷ 97 ∷ 119 ∷ 110 ∷ 10 ∷ []
touched_line (Ok (Some touch)) = touch_line touch

-- ---- why a batch faulted

-- ` REGISTER HELD`: a register's offset has three digits, the last of a word's eight
unfoldable pub detail_text : Option HeldRegister → List ℕ
detail_text None = []
detail_text (Some register) = spaced (drop 5 (hex_word register.offset)) ++ spaced (hex_word register.held)

-- `FAULT PLACE WORD`, and for 24 the register and what it held
unfoldable pub explanation_line : Explanation → List ℕ
explanation_line e = decimal (fault_number e.fault) ++ (spaced (decimal e.place) ++ (spaced (hex_word e.word) ++ (detail_text e.detail ++ (10 ∷ []))))

unfoldable pub fault_line : Result Explanation Refusal → List ℕ
fault_line (Err refusal) = refused_line refusal
fault_line (Ok explanation) = explanation_line explanation

-- ---- the contract of the functions that make them

-- a line typed from the start of a buffer on; 128 bytes have room for it
pub record Types (text line : List ℕ) (written : ℕ) (line' : List ℕ) : Type 0 where
  pub typed : line_of line' written ≡ appended (line_of line 0) text
  pub short : length text ≤ 128
