-- Laws of the lines: texts typed one after another.
use mathlib.Core.Path.{◌≡◌, refl, ◌∙◌}
use mathlib.Core.List.{List, [], ◌∷◌, ◌++◌}
use Prim.Native.Nat.{ℕ, ◌≤◌}
use native.Mathlib.Omega.{arith}
use lib.ListN.{length, length-append, drop}
use Rattle.text.specs.Line.{Line, line_of, pushed, appended}
use Rattle.text.specs.Hex.{hex_word}
use Rattle.text.specs.Decimal.{decimal}
use Rattle.text.proofs.Typing.{typed-append, typed-cons, typed_one, hex_size, three_size}
use Rattle.lines.specs.Lines.{spaced}
use Rattle.provenance.specs.declared.Touch.{Touch}
use Rattle.std.specs.Prelude.{Some, None}
use Rattle.task_check.specs.Faults.{fault_number}
use Rattle.provenance.specs.declared.HeldRegister.{HeldRegister}
use Rattle.provenance.specs.declared.Explanation.{Explanation}
use Rattle.provenance.specs.declared.Refusal.{Refusal}
use Rattle.provenance.specs.Touched.{mode_number}
use Rattle.provenance.specs.Answers.{refusal_number}
use Rattle.answer_lines.specs.Lines.{refused_line, touch_line, detail_text, explanation_line, Types}

-- for 24 the register and what it held
module _ (l a b c d : Line) (register : HeldRegister) where
  pub detail_typed : a ≡ pushed l 32 → b ≡ appended a (drop 5 (hex_word register.offset)) → c ≡ pushed b 32 → d ≡ appended c (hex_word register.held)
      → d ≡ appended l (detail_text (Some register))
  unfolding detail_text
  detail_typed ea eb ec ed =
      let x = typed-append l (spaced (drop 5 (hex_word register.offset))) (spaced (hex_word register.held)) in
      let y = typed-cons l 32 (drop 5 (hex_word register.offset)) in
      let z = typed-cons b 32 (hex_word register.held) in
      cc

pub detail_size : (register : HeldRegister) → length (detail_text (Some register)) ≤ 13
unfolding detail_text
detail_size register = simp length-append (omega (arith, three_size register.offset, hex_size register.held))

-- for the others nothing
pub nothing-typed : (l : Line) → l ≡ appended l (detail_text None)
unfolding appended detail_text
nothing-typed l = refl

pub nothing-size : length (detail_text None) ≤ 13
unfolding detail_text
nothing-size = omega arith

module _ (line line' : List ℕ) (written : ℕ) where
  pub refused_types : (refusal : Refusal) (number : ℕ) (a b : Line) → number ≡ refusal_number refusal → length (decimal number) ≤ 20
      → a ≡ appended (line_of line 0) (114 ∷ 101 ∷ 102 ∷ 117 ∷ 115 ∷ 101 ∷ 100 ∷ 32 ∷ [])
      → b ≡ appended a (decimal number)
      → line_of line' written ≡ pushed b 10
      → Types (refused_line refusal) line written line'
  unfolding refused_line
  refused_types refusal number a b is m ea eb e =
      let few : length (decimal (refusal_number refusal)) ≤ 20 = rw (← is) m in
      let x = typed-append (line_of line 0) (114 ∷ 101 ∷ 102 ∷ 117 ∷ 115 ∷ 101 ∷ 100 ∷ 32 ∷ []) (decimal (refusal_number refusal) ++ (10 ∷ [])) in
      let y = typed-append a (decimal (refusal_number refusal)) (10 ∷ []) in
      let z = e ∙ typed_one b 10 in
      record { typed = cc; short = simp length-append (omega (arith, few)) }

  pub touch_types : (touch : Touch) (mode : ℕ) (a b c : Line) → mode ≡ mode_number touch.mode
      → length (decimal touch.ticket) ≤ 20 → length (decimal touch.number) ≤ 20 → length (decimal mode) ≤ 20
      → a ≡ appended (line_of line 0) (decimal touch.ticket)
      → b ≡ appended a (spaced (decimal touch.number))
      → c ≡ appended b (spaced (decimal mode))
      → line_of line' written ≡ pushed c 10
      → Types (touch_line touch) line written line'
  unfolding touch_line
  touch_types touch mode a b c is m n o ea eb ec e =
      let few : length (decimal (mode_number touch.mode)) ≤ 20 = rw (← is) o in
      let third : c ≡ appended b (spaced (decimal (mode_number touch.mode))) = rw (← is) ec in
      let last : List ℕ = spaced (decimal (mode_number touch.mode)) ++ (10 ∷ []) in
      let x = typed-append (line_of line 0) (decimal touch.ticket) (spaced (decimal touch.number) ++ last) in
      let y = typed-append a (spaced (decimal touch.number)) last in
      let z = typed-append b (spaced (decimal (mode_number touch.mode))) (10 ∷ []) in
      let w = e ∙ typed_one c 10 in
      record { typed = cc; short = simp length-append (omega (arith, m, n, few)) }

  pub explanation_types : (x : Explanation) (fault : ℕ) (a b s c d : Line) → fault ≡ fault_number x.fault → length (decimal fault) ≤ 20 → length (decimal x.place) ≤ 20 → length (detail_text x.detail) ≤ 13
      → a ≡ appended (line_of line 0) (decimal fault)
      → b ≡ appended a (spaced (decimal x.place))
      → s ≡ pushed b 32
      → c ≡ appended s (hex_word x.word)
      → d ≡ appended c (detail_text x.detail)
      → line_of line' written ≡ pushed d 10
      → Types (explanation_line x) line written line'
  unfolding explanation_line
  explanation_types x fault a b s c d is m n o ea eb es ec ed e =
      let last : List ℕ = detail_text x.detail ++ (10 ∷ []) in
      let word : List ℕ = spaced (hex_word x.word) ++ last in
      let p = typed-append (line_of line 0) (decimal fault) (spaced (decimal x.place) ++ word) in
      let q = typed-append a (spaced (decimal x.place)) word in
      let t = typed-append b (spaced (hex_word x.word)) last in
      let u = typed-cons b 32 (hex_word x.word) in
      let v = typed-append c (detail_text x.detail) (10 ∷ []) in
      let w = e ∙ typed_one d 10 in
      rw (← is) (record { typed = cc; short = simp length-append (omega (arith, m, n, o, hex_size x.word)) })
