-- What decode and encode come to, case by case.
use mathlib.Core.Path.{◌≡◌, refl, sym, ap, ◌∙◌}
use mathlib.Core.Bool.{Bool, true, false, ◌&&◌, false≢true}
use mathlib.Core.List.{List, ◌++◌, append-nil}
use Prim.Native.Nat.{ℕ, ◌+◌, ◌≤◌}
use native.Mathlib.Omega.{arith}
use lib.ListN.{length, drop_of_length-le}
use lib.Dec.{eqb}
use borrow.Author.Tests.{eq-eqb, ne_eqb, eqb-true}
use Rattle.word.proofs.Tests.{and-true}
use Rattle.reset.specs.Reset.{is_rule_number}
use Rattle.engine_record.specs.Rules.{valid}
use Rattle.word.specs.Word.{words_bytes, words}
use Rattle.word.specs.Splice.{spliced}
use Rattle.word.proofs.Written.{length-bytes, write_on}
use Rattle.engine_record.specs.declared.EngineRecord.{EngineRecord}
use Rattle.record_bytes.specs.Layout.{word_at}
use Rattle.record_bytes.specs.Written.{head_words, clients_words, slots_words, staged_words, words_of, bytes_of, written}
use Rattle.record_bytes.specs.Read.{slots_right, fixed_right, is_record, record_in, no_record, record_of}
use Rattle.record_bytes.specs.RoundTrip.{Untrusted}

-- ---- decode

-- `all` are the 272 bytes that the bytes were found to be
pub judged : (bytes all : List ℕ) (w : ℕ) (r a b t : Bool) → all ≡ bytes → length bytes ≡ 272 → w ≡ word_at (words all) 3 → r ≡ is_rule_number w → a ≡ fixed_right (words all) →
    b ≡ slots_right (words all) → (r && a && b) ≡ t → is_record bytes ≡ t
unfolding is_record
judged bytes all w r a b t same n ew er ea eb e = rw (eq-eqb (length bytes) 272 n, ← same, ← ew, ← er, ← ea, ← eb) e

pub judged-short : (bytes : List ℕ) → (length bytes ≡ 272 → ⊥) → is_record bytes ≡ false
unfolding is_record
judged-short bytes n = rw (ne_eqb (length bytes) 272 n)

pub is_none : (bytes : List ℕ) (r : EngineRecord) → is_record bytes ≡ false → r ≡ no_record → r ≡ record_of bytes
unfolding record_of
is_none bytes r e is = rw e is

-- bytes of another length stand for no record
pub none_short : (bytes : List ℕ) → (length bytes ≡ 272 → ⊥) → record_of bytes ≡ no_record
none_short bytes n = sym (is_none bytes no_record (judged-short bytes n) refl)

pub is_some : (bytes all : List ℕ) (r : EngineRecord) → all ≡ bytes → is_record bytes ≡ true → r ≡ record_in (words all) → r ≡ record_of bytes
unfolding record_of
is_some bytes all r same e is = rw (e, ← same) is

-- ---- encode

length-words : (r : EngineRecord) → length (words_of r) ≡ 68
unfolding words_of
length-words r = refl

pub length_record : (r : EngineRecord) → length (bytes_of r) ≡ 272
unfolding bytes_of
length_record r = omega (arith, length-bytes (words_of r), length-words r)

-- as many bytes as there are, put in from the first on
all_put : (ys xs : List ℕ) → length ys ≡ length xs → spliced 0 ys xs ≡ ys
unfolding spliced
all_put ys xs e =
    let all : length xs ≤ 0 + length ys = omega arith in
    ap (λ (l : List ℕ). ys ++ l) (drop_of_length-le xs {i = 0 + length ys} all) ∙ append-nil ys

-- the four parts of a record, each where the one before it ends
parts : (r : EngineRecord) (bytes : List ℕ) → length bytes ≡ 272 →
    spliced 256 (words_bytes (staged_words r.staged)) (spliced 96 (words_bytes (slots_words r.slots)) (spliced 32 (words_bytes (clients_words r.clients)) (spliced 0 (words_bytes (head_words r)) bytes)))
    ≡ spliced 0 (bytes_of r) bytes
unfolding bytes_of words_of
parts r bytes n =
    let h : List ℕ = head_words r in
    let c : List ℕ = clients_words r.clients in
    let s : List ℕ = slots_words r.slots in
    let g : List ℕ = staged_words r.staged in
    rw (write_on 0 h c bytes (omega arith), write_on 0 (h ++ c) s bytes (omega arith)) (write_on 0 ((h ++ c) ++ s) g bytes (omega arith))

pub wrote : (r : EngineRecord) (head staged bytes b1 b2 b3 now : List ℕ) → length bytes ≡ 272 → head ≡ head_words r → staged ≡ staged_words r.staged →
    b1 ≡ spliced 0 (words_bytes head) bytes → b2 ≡ spliced 32 (words_bytes (clients_words r.clients)) b1 → b3 ≡ spliced 96 (words_bytes (slots_words r.slots)) b2 →
    now ≡ spliced 256 (words_bytes staged) b3 → now ≡ written r bytes
unfolding written
wrote r head staged bytes b1 b2 b3 now n h g e1 e2 e3 e4 =
    rw (e4, e3, e2, e1, h, g, eq-eqb (length bytes) 272 n) (parts r bytes n ∙ all_put (bytes_of r) bytes (length_record r ∙ sym n))

pub left_alone : (r : EngineRecord) (bytes : List ℕ) → (length bytes ≡ 272 → ⊥) → bytes ≡ written r bytes
unfolding written
left_alone r bytes n = rw (ne_eqb (length bytes) 272 n)

-- ---- what is no record

-- it breaks a rule
pub none-valid : (bytes : List ℕ) → Untrusted bytes
unfolding record_of no_record valid
none-valid bytes e = rw e

pub valid_record : (bytes : List ℕ) → valid (record_of bytes) ≡ true → is_record bytes ≡ true
valid_record bytes v = go (is_record bytes) refl
  where
    go : (t : Bool) → is_record bytes ≡ t → is_record bytes ≡ true
    go true e = e
    go false e = absurd (false≢true (sym (none-valid bytes e) ∙ v))

pub record_size : (bytes : List ℕ) → is_record bytes ≡ true → length bytes ≡ 272
unfolding is_record
record_size bytes e = eqb-true (length bytes) 272 (and-true (eqb (length bytes) 272) (is_rule_number (word_at (words bytes) 3) && fixed_right (words bytes) && slots_right (words bytes)) e).0

pub written-whole : (r : EngineRecord) (bytes : List ℕ) → length bytes ≡ 272 → written r bytes ≡ bytes_of r
unfolding written
written-whole r bytes n = rw (eq-eqb (length bytes) 272 n)
