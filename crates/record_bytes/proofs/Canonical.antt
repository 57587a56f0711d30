-- What is taken for a record is the bytes of that record: a record has one form.
use mathlib.Core.Path.{◌≡◌, refl, sym, ap, ◌∙◌}
use mathlib.Core.Bool.{Bool, true, false, ◌&&◌}
use mathlib.Core.List.{List, [], ◌∷◌, ◌++◌}
use Prim.Native.Nat.{ℕ, zero, suc, ◌+◌, ◌*◌, ◌/◌, ◌%◌, ◌<◌, ◌^◌}
use native.Mathlib.Omega.{arith}
use lib.ListN.{length, get_or}
use lib.Dec.{eqb, leb}
use borrow.Author.Tests.{eqb-true, leb-true}
use Rattle.word.specs.Word.{AllBytes, byte_of, le_bytes, words_bytes, words}
use Rattle.word.proofs.Tests.{and-true}
use Rattle.word.proofs.Words.{length-words}
use Rattle.reset.specs.Reset.{is_rule_number}
use Rattle.reset.proofs.Numbers.{number-back}
use Rattle.engine_record.specs.declared.EngineRecord.{EngineRecord}
use Rattle.record_bytes.specs.declared.Row.{Row}
use Rattle.record_bytes.specs.Layout.{word_at}
use Rattle.record_bytes.specs.Written.{head_words, clients_words, staged_words, row_of, row_words, row_at, flag_of, words_of, bytes_of}
use Rattle.record_bytes.specs.Read.{slot_right, slots_right, fixed_right, is_record, slot_in, clients_in, slots_in, record_in, record_of}
use Rattle.record_bytes.specs.RoundTrip.{Canonical}
use Rattle.record_bytes.proofs.Cases.{record_size}
use Rattle.record_bytes.proofs.Words.{low-is}

-- ---- bytes

over-two : (x y : ℕ) → x < 65536 → (x + y * 65536) / 65536 ≡ y
over-two x y h = omega arith

over_three : (x y : ℕ) → x < 16777216 → (x + y * 16777216) / 16777216 ≡ y
over_three x y h = omega arith

low_byte : (c d : ℕ) → c < 256 → (c + d * 256) % 256 ≡ c
low_byte c d h = omega arith

small-byte : (d : ℕ) → d < 256 → d % 256 ≡ d
small-byte d h = omega arith

four-back : (a b c d : ℕ) → a < 256 → b < 256 → c < 256 → d < 256 → le_bytes (a + b * 256 + c * 65536 + d * 16777216) ≡ a ∷ b ∷ c ∷ d ∷ []
unfolding le_bytes byte_of
four-back a b c d ha hb hc hd =
    let w : ℕ = a + b * 256 + c * 65536 + d * 16777216 in
    let e0 : w / 1 % 256 ≡ a = omega arith in
    let e1 : w / 256 % 256 ≡ b = omega arith in
    let two : w ≡ a + b * 256 + (c + d * 256) * 65536 = omega arith in
    let e2 : w / 65536 % 256 ≡ c =
    ap (λ (n : ℕ). n / 65536 % 256) two ∙ ap (λ (n : ℕ). n % 256) (over-two (a + b * 256) (c + d * 256) (omega arith)) ∙ low_byte c d hc
    in
    let e3 : w / 16777216 % 256 ≡ d =
    ap (λ (n : ℕ). n % 256) (over_three (a + b * 256 + c * 65536) d (omega arith)) ∙ small-byte d hd
    in
    rw (e0, e1, e2, e3)

bytes_back : (bytes : List ℕ) → AllBytes bytes → length bytes % 4 ≡ 0 → words_bytes (words bytes) ≡ bytes
unfolding words_bytes words
bytes_back [] h n = refl
bytes_back (a ∷ []) h n = absurd (omega arith)
bytes_back (a ∷ b ∷ []) h n = absurd (omega arith)
bytes_back (a ∷ b ∷ c ∷ []) h n = absurd (omega arith)
bytes_back (a ∷ b ∷ c ∷ d ∷ rest) h n =
    rw (four-back a b c d h.0 h.1.0 h.1.1.0 h.1.1.1.0, bytes_back rest h.1.1.1.1 (omega arith))

words_small : (bytes : List ℕ) → AllBytes bytes → (i : ℕ) → get_or (words bytes) i 0 < 2 ^ 32
unfolding words
words_small [] h i = omega arith
words_small (a ∷ []) h i = omega arith
words_small (a ∷ b ∷ []) h i = omega arith
words_small (a ∷ b ∷ c ∷ []) h i = omega arith
words_small (a ∷ b ∷ c ∷ d ∷ rest) h zero = omega (arith, h.0, h.1.0, h.1.1.0, h.1.1.1.0)
words_small (a ∷ b ∷ c ∷ d ∷ rest) h (suc i) = words_small rest h.1.1.1.1 i

-- ---- words

table : ℕ → (ℕ → ℕ) → List ℕ
table zero f = []
table (suc n) f = f 0 ∷ table n (λ i. f (suc i))

table_is : (ws : List ℕ) → table (length ws) (λ i. get_or ws i 0) ≡ ws
unfolding table
table_is [] = refl
table_is (w ∷ ws) = ap (λ (l : List ℕ). w ∷ l) (table_is ws)

zeros : (ws : List ℕ) (k : ℕ) → (eqb (word_at ws k) 0 && eqb (word_at ws (k + 1)) 0 && eqb (word_at ws (k + 2)) 0 && eqb (word_at ws (k + 3)) 0 && eqb (word_at ws (k + 4)) 0) ≡ true →
    (word_at ws k ≡ 0) × (word_at ws (k + 1) ≡ 0) × (word_at ws (k + 2) ≡ 0) × (word_at ws (k + 3) ≡ 0) × (word_at ws (k + 4) ≡ 0)
zeros ws k h =
    let a4 = and-true (eqb (word_at ws k) 0 && eqb (word_at ws (k + 1)) 0 && eqb (word_at ws (k + 2)) 0 && eqb (word_at ws (k + 3)) 0) (eqb (word_at ws (k + 4)) 0) h in
    let a3 = and-true (eqb (word_at ws k) 0 && eqb (word_at ws (k + 1)) 0 && eqb (word_at ws (k + 2)) 0) (eqb (word_at ws (k + 3)) 0) a4.0 in
    let a2 = and-true (eqb (word_at ws k) 0 && eqb (word_at ws (k + 1)) 0) (eqb (word_at ws (k + 2)) 0) a3.0 in
    let a1 = and-true (eqb (word_at ws k) 0) (eqb (word_at ws (k + 1)) 0) a2.0 in
    (eqb-true (word_at ws k) 0 a1.0, eqb-true (word_at ws (k + 1)) 0 a1.1, eqb-true (word_at ws (k + 2)) 0 a2.1, eqb-true (word_at ws (k + 3)) 0 a3.1, eqb-true (word_at ws (k + 4)) 0 a4.1)

-- a flag that is read and written again
flag-back : (n : ℕ) → leb n 1 ≡ true → flag_of (eqb n 1) ≡ n
flag-back zero h = refl
flag-back (suc zero) h = refl
flag-back (suc (suc n)) h = absurd (omega (arith, leb-true (suc (suc n)) 1 h))

fixed : (ws : List ℕ) → fixed_right ws ≡ true →
    (word_at ws 4 ≡ 0) × (word_at ws 7 ≡ 0) × (flag_of (eqb (word_at ws 11) 1) ≡ word_at ws 11) × (flag_of (eqb (word_at ws 15) 1) ≡ word_at ws 15)
    × (flag_of (eqb (word_at ws 19) 1) ≡ word_at ws 19) × (flag_of (eqb (word_at ws 23) 1) ≡ word_at ws 23)
unfolding fixed_right
fixed ws h =
    let a5 = and-true (eqb (word_at ws 4) 0 && eqb (word_at ws 7) 0 && leb (word_at ws 11) 1 && leb (word_at ws 15) 1 && leb (word_at ws 19) 1) (leb (word_at ws 23) 1) h in
    let a4 = and-true (eqb (word_at ws 4) 0 && eqb (word_at ws 7) 0 && leb (word_at ws 11) 1 && leb (word_at ws 15) 1) (leb (word_at ws 19) 1) a5.0 in
    let a3 = and-true (eqb (word_at ws 4) 0 && eqb (word_at ws 7) 0 && leb (word_at ws 11) 1) (leb (word_at ws 15) 1) a4.0 in
    let a2 = and-true (eqb (word_at ws 4) 0 && eqb (word_at ws 7) 0) (leb (word_at ws 11) 1) a3.0 in
    let a1 = and-true (eqb (word_at ws 4) 0) (eqb (word_at ws 7) 0) a2.0 in
    (eqb-true (word_at ws 4) 0 a1.0, eqb-true (word_at ws 7) 0 a1.1, flag-back (word_at ws 11) a2.1, flag-back (word_at ws 15) a3.1, flag-back (word_at ws 19) a4.1, flag-back (word_at ws 23) a5.1)

slots : (ws : List ℕ) → slots_right ws ≡ true →
    (slot_right ws 24 ≡ true) × (slot_right ws 29 ≡ true) × (slot_right ws 34 ≡ true) × (slot_right ws 39 ≡ true) × (slot_right ws 44 ≡ true) × (slot_right ws 49 ≡ true) × (slot_right ws 54 ≡ true) × (slot_right ws 59 ≡ true)
unfolding slots_right
slots ws h =
    let a7 = and-true (slot_right ws 24 && slot_right ws 29 && slot_right ws 34 && slot_right ws 39 && slot_right ws 44 && slot_right ws 49 && slot_right ws 54) (slot_right ws 59) h in
    let a6 = and-true (slot_right ws 24 && slot_right ws 29 && slot_right ws 34 && slot_right ws 39 && slot_right ws 44 && slot_right ws 49) (slot_right ws 54) a7.0 in
    let a5 = and-true (slot_right ws 24 && slot_right ws 29 && slot_right ws 34 && slot_right ws 39 && slot_right ws 44) (slot_right ws 49) a6.0 in
    let a4 = and-true (slot_right ws 24 && slot_right ws 29 && slot_right ws 34 && slot_right ws 39) (slot_right ws 44) a5.0 in
    let a3 = and-true (slot_right ws 24 && slot_right ws 29 && slot_right ws 34) (slot_right ws 39) a4.0 in
    let a2 = and-true (slot_right ws 24 && slot_right ws 29) (slot_right ws 34) a3.0 in
    let a1 = and-true (slot_right ws 24) (slot_right ws 29) a2.0 in
    (a1.0, a1.1, a2.1, a3.1, a4.1, a5.1, a6.1, a7.1)

-- the words of a record, with rows that may be another's
unfoldable words_with : EngineRecord → (s0 s1 s2 s3 s4 s5 s6 s7 : Row) → List ℕ
words_with r s0 s1 s2 s3 s4 s5 s6 s7 =
    head_words r ++ (clients_words r.clients
    ++ ((row_words s0 ++ (row_words s1 ++ (row_words s2 ++ (row_words s3 ++ (row_words s4 ++ (row_words s5 ++ (row_words s6 ++ row_words s7)))))))
    ++ staged_words r.staged))

module _ (r : EngineRecord) {s0 s1 s2 s3 s4 s5 s6 s7 : Row} where
  rows_are : s0 ≡ row_at r.slots 0 → s1 ≡ row_at r.slots 1 → s2 ≡ row_at r.slots 2 → s3 ≡ row_at r.slots 3 →
      s4 ≡ row_at r.slots 4 → s5 ≡ row_at r.slots 5 → s6 ≡ row_at r.slots 6 → s7 ≡ row_at r.slots 7 →
      words_with r s0 s1 s2 s3 s4 s5 s6 s7 ≡ words_of r
  unfolding words_of words_with
  rows_are e0 e1 e2 e3 e4 e5 e6 e7 = rw (e0, e1, e2, e3, e4, e5, e6, e7)

abbrev row_in : List ℕ → ℕ → Row
row_in ws k = record { tag = word_at ws k; client = word_at ws (k + 1); ticket = word_at ws (k + 2); offset = word_at ws (k + 3); length = word_at ws (k + 4) }

module _ (ws : List ℕ) (small : (i : ℕ) → get_or ws i 0 < 2 ^ 32) where
  row_is : (k : ℕ) → slot_right ws k ≡ true → row_in ws k ≡ row_of (slot_in ws k)
  unfolding slot_in
  row_is k h = go (eqb (word_at ws k) 1) refl
    where
      go : (t : Bool) → eqb (word_at ws k) 1 ≡ t → row_in ws k ≡ row_of (slot_in ws k)
      go true e = let one : word_at ws k ≡ 1 = eqb-true (word_at ws k) 1 e in rw (one, low-is (word_at ws (k + 3)) (small (k + 3)), low-is (word_at ws (k + 4)) (small (k + 4)))
      go false e =
          let z = zeros ws k (rw e at h) in
          rw (z.0, z.1, z.2, z.3, z.4)

  plain : is_rule_number (word_at ws 3) ≡ true →
      (word_at ws 4 ≡ 0) × (word_at ws 7 ≡ 0) × (flag_of (eqb (word_at ws 11) 1) ≡ word_at ws 11) × (flag_of (eqb (word_at ws 15) 1) ≡ word_at ws 15)
      × (flag_of (eqb (word_at ws 19) 1) ≡ word_at ws 19) × (flag_of (eqb (word_at ws 23) 1) ≡ word_at ws 23) →
      words_with (record_in ws) (row_in ws 24) (row_in ws 29) (row_in ws 34) (row_in ws 39) (row_in ws 44) (row_in ws 49) (row_in ws 54) (row_in ws 59) ≡ table 68 (λ i. get_or ws i 0)
  unfolding words_with record_in clients_in table
  plain rule z =
      rw (
        low-is (word_at ws 0) (small 0),
        low-is (word_at ws 1) (small 1),
        low-is (word_at ws 2) (small 2),
        low-is (word_at ws 5) (small 5),
        z.0,
        z.1,
        z.2,
        z.3,
        z.4,
        z.5,
        low-is (word_at ws 65) (small 65),
        low-is (word_at ws 66) (small 66),
        low-is (word_at ws 67) (small 67),
        number-back (word_at ws 3) rule,
      )

  words_are : length ws ≡ 68 → is_rule_number (word_at ws 3) ≡ true → fixed_right ws ≡ true → slots_right ws ≡ true → words_of (record_in ws) ≡ ws
  unfolding record_in slots_in
  words_are n rule p q =
      let r = slots ws q in
      sym (rows_are (record_in ws) (row_is 24 r.0) (row_is 29 r.1) (row_is 34 r.2) (row_is 39 r.3) (row_is 44 r.4) (row_is 49 r.5) (row_is 54 r.6) (row_is 59 r.7))
      ∙ plain rule (fixed ws p)
      ∙ ap (λ (m : ℕ). table m (λ i. get_or ws i 0)) (sym n)
      ∙ table_is ws

rest : (bytes : List ℕ) → is_record bytes ≡ true → (is_rule_number (word_at (words bytes) 3) ≡ true) × (fixed_right (words bytes) ≡ true) × (slots_right (words bytes) ≡ true)
unfolding is_record
rest bytes e =
    let rule : Bool = is_rule_number (word_at (words bytes) 3) in
    let all = and-true (eqb (length bytes) 272) (rule && fixed_right (words bytes) && slots_right (words bytes)) e in
    let two = and-true (rule && fixed_right (words bytes)) (slots_right (words bytes)) all.1 in
    let one = and-true rule (fixed_right (words bytes)) two.0 in
    (one.0, one.1, two.1)

pub canonical : (bytes : List ℕ) → Canonical bytes
unfolding record_of bytes_of
canonical bytes h e =
    let n = record_size bytes e in
    let parts = rest bytes e in
    let long : length (words bytes) ≡ 68 = omega (arith, length-words bytes) in
    rw e (ap words_bytes (words_are (words bytes) (words_small bytes h) long parts.0 parts.1 parts.2) ∙ bytes_back bytes h (omega arith))
