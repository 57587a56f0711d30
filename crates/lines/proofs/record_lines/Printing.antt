-- Laws of the lines: texts typed one after another into a buffer that has room for any line.
use mathlib.Core.Path.{◌≡◌, refl, ap, ◌∙◌}
use mathlib.Core.List.{List, [], ◌∷◌, ◌++◌}
use Prim.Native.Nat.{ℕ, ◌/◌, ◌%◌, ◌≤◌}
use native.Mathlib.Omega.{arith}
use lib.ListN.{length, length-append}
use Rattle.word.specs.Word.{byte_of, be_bytes}
use Rattle.word.specs.Splice.{spliced}
use Rattle.model.specs.Calls.{CompletionStatus}
use Rattle.text.specs.Line.{Line, line_of, pushed, appended}
use Rattle.text.specs.Hex.{hex_bytes, hex_word}
use Rattle.text.specs.Decimal.{decimal}
use Rattle.text.proofs.Typing.{typed-append, typed-cons, typed_one, typed-whole, hex_size}
use Rattle.lines.specs.Lines.{spaced, completion_line, refusal_line, answer_line}
use Rattle.lines.specs.Prints.{Prints}
use Rattle.std.proofs.Common.{Err}
use Rattle.queue.specs.declared.Refusal.{Refusal}
use Rattle.queue.specs.Answers.{number_of}
use Rattle.claims.proofs.Cases.{refuses}
use Rattle.engine.specs.Outcome.{run_refusal_of as refusalOf, values_of}
use Rattle.claims.specs.Engine.{answer_or_refusal, completion}

-- eight digits show a number modulo 2 to the 32nd
pub hex_rest : (n : ℕ) → hex_word (n % 4294967296) ≡ hex_word n
unfolding hex_word hex_bytes be_bytes byte_of
hex_rest n =
    let d : n % 4294967296 / 16777216 % 256 ≡ n / 16777216 % 256 = omega arith in
    let c : n % 4294967296 / 65536 % 256 ≡ n / 65536 % 256 = omega arith in
    let b : n % 4294967296 / 256 % 256 ≡ n / 256 % 256 = omega arith in
    let a : n % 4294967296 / 1 % 256 ≡ n / 1 % 256 = omega arith in
    rw (d, c, b, a)

-- nothing printed
pub prints-none : (line : List ℕ) → Prints [] line 0 line
unfolding spliced
prints-none line = record { size = refl; bytes = refl }

-- a text that was typed from the buffer's start on, and that fits
pub prints-typed : (text line : List ℕ) (written : ℕ) (line' : List ℕ) → length text ≤ 128 → 128 ≤ length line
    → line_of line' written ≡ appended (line_of line 0) text → Prints text line written line'
prints-typed text line written line' small room e =
    let all = e ∙ typed-whole line text (omega arith) in
    record { size = ap (λ (l : Line). l.end) all; bytes = ap (λ (l : Line). l.bytes) all }

module _ (line line' : List ℕ) (written : ℕ) (room : 128 ≤ length line) where
  pub refusal-prints : (client number : ℕ) (a b c : Line) → length (decimal client) ≤ 20 → length (decimal number) ≤ 20
      → a ≡ appended (line_of line 0) (decimal client)
      → b ≡ appended a (32 ∷ 45 ∷ 32 ∷ 45 ∷ 32 ∷ [])
      → c ≡ appended b (decimal number)
      → line_of line' written ≡ appended c (32 ∷ 48 ∷ 10 ∷ [])
      → Prints (refusal_line client number) line written line'
  unfolding refusal_line
  refusal-prints client number a b c m n ea eb ec e =
      let last : List ℕ = decimal number ++ (32 ∷ 48 ∷ 10 ∷ []) in
      let x = typed-append (line_of line 0) (decimal client) ((32 ∷ 45 ∷ 32 ∷ 45 ∷ 32 ∷ []) ++ last) in
      let y = typed-append a (32 ∷ 45 ∷ 32 ∷ 45 ∷ 32 ∷ []) last in
      let z = typed-append b (decimal number) (32 ∷ 48 ∷ 10 ∷ []) in
      prints-typed (refusal_line client number) line written line' (simp length-append (omega arith)) room (cc)

  completion-typed : (client ticket : ℕ) (v : CompletionStatus) (a b c d f : Line)
      → length (decimal client) ≤ 20 → length (decimal ticket) ≤ 20 → length (decimal v.fault) ≤ 20 → length (decimal v.offset) ≤ 20
      → a ≡ appended (line_of line 0) (decimal client)
      → b ≡ appended a (spaced (decimal ticket))
      → c ≡ appended b (spaced (hex_word v.status))
      → d ≡ appended c (spaced (decimal v.fault))
      → f ≡ appended d (spaced (decimal v.offset))
      → line_of line' written ≡ appended f (10 ∷ [])
      → Prints (completion_line client ticket v) line written line'
  unfolding completion_line
  completion-typed client ticket v a b c d f m n o p ea eb ec ed ef e =
      let last : List ℕ = spaced (decimal v.offset) ++ (10 ∷ []) in
      let late : List ℕ = spaced (decimal v.fault) ++ last in
      let word : List ℕ = spaced (hex_word v.status) ++ late in
      let w = typed-append (line_of line 0) (decimal client) (spaced (decimal ticket) ++ word) in
      let x = typed-append a (spaced (decimal ticket)) word in
      let y = typed-append b (spaced (hex_word v.status)) late in
      let z = typed-append c (spaced (decimal v.fault)) last in
      let q = typed-append d (spaced (decimal v.offset)) (10 ∷ []) in
      prints-typed (completion_line client ticket v) line written line' (simp length-append (omega (arith, hex_size v.status))) room (cc)

  pub completion-prints : (client ticket : ℕ) (v : CompletionStatus) (word fault offset : ℕ) (a b s c d f : Line)
      → length (decimal client) ≤ 20 → length (decimal ticket) ≤ 20 → length (decimal fault) ≤ 20 → length (decimal offset) ≤ 20
      → hex_word word ≡ hex_word v.status → fault ≡ v.fault → offset ≡ v.offset
      → a ≡ appended (line_of line 0) (decimal client)
      → b ≡ appended a (32 ∷ decimal ticket)
      → s ≡ pushed b 32
      → c ≡ appended s (hex_word word)
      → d ≡ appended c (32 ∷ decimal fault)
      → f ≡ appended d (32 ∷ decimal offset)
      → line_of line' written ≡ pushed f 10
      → Prints (completion_line client ticket v) line written line'
  completion-prints client ticket v word fault offset a b s c d f m n o p is_IsWord is-fault is-offset ea eb es ec ed ef e =
      let spaces = typed-cons b 32 (hex_word word) in
      completion-typed client ticket v a b c d f m n (rw (← is-fault) o) (rw (← is-offset) p) ea eb (cc) (cc) (cc) (e ∙ typed_one f 10)

-- what is printed of a run that was refused
pub outcome-refused : (client : ℕ) (r : Refusal)
    → answer_line client (answer_or_refusal (refusalOf (Err r)) (completion (values_of (Err r)))) ≡ refusal_line client (number_of r)
unfolding answer_line
outcome-refused client r = rw (refuses r (completion (values_of (Err r))))
