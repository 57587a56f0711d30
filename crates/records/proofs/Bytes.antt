-- Laws of the bytes of a record: what is decided of them, and that bytes behind them change nothing.
use mathlib.Core.Path.{◌≡◌, sym, ap, ◌∙◌}
use mathlib.Core.Bool.{Bool, true, false}
use mathlib.Core.List.{List, ◌++◌}
use Prim.Native.Nat.{ℕ, ◌+◌, ◌-◌, ◌≤◌, ◌<◌}
use native.Mathlib.Omega.{arith}
use lib.ListN.{length, get_or, take, drop, length-drop, get_or-append, take-append-drop}
use lib.Seq.{length-take-le, take-append-le, drop-append-le}
use lib.Dec.{eqb, ltb}
use borrow.Author.Tests.{lt-ltb, le-ltb, ltb-false, eqb-false}
use Rattle.word.specs.Word.{be32_at}
use Rattle.word.proofs.Tests.{or_false}
use Rattle.records.specs.declared.Edition.{Edition}
use Rattle.records.specs.declared.Edition.TheVariants.{First, Second}
use Rattle.records.specs.declared.Stage.TheVariants.{Records, Ended}
use Rattle.records.specs.declared.Found.TheVariants.{Record, BadRecord}
use Rattle.records.specs.Records.{length_field, bad_size, entry_of}
use Rattle.records.specs.Reading.{entry_in, room_of, batch_start, bytes_wanted, wait_for_more, after_record_bytes}

-- the room of either edition
pub room-between : (edition : Edition) → (32773 ≤ room_of edition) × (room_of edition ≤ 32777)
room-between First = (omega arith, omega arith)
room-between Second = (omega arith, omega arith)

-- a length that is not bad
pub good-size : (edition : Edition) (size : ℕ) → bad_size edition size ≡ false → (1 ≤ size) × (4 + size ≤ room_of edition) × (batch_start edition ≤ 4 + size)
good-size First size e =
    let both = or_false (eqb size 0) (ltb 32769 size) e in
    let some = eqb-false size 0 both.0 in
    let few = ltb-false 32769 size both.1 in
    (omega arith, omega arith, omega arith)
good-size Second size e =
    let both = or_false (ltb size 5) (ltb 32773 size) e in
    let some = ltb-false size 5 both.0 in
    let few = ltb-false 32773 size both.1 in
    (omega arith, omega arith, omega arith)

-- ---- bytes behind those of a record

pub size-front : (xs ys : List ℕ) → 4 ≤ length xs → length_field (xs ++ ys) ≡ length_field xs
unfolding be32_at
size-front xs ys h =
    rw (get_or-append xs ys 0 0 (omega arith), get_or-append xs ys 0 1 (omega arith), get_or-append xs ys 0 2 (omega arith), get_or-append xs ys 0 3 (omega arith))

pub entry-front : (xs ys : List ℕ) → 1 ≤ length_field xs → 4 + length_field xs ≤ length xs → entry_of (xs ++ ys) ≡ entry_of xs
entry-front xs ys some h =
    let client = get_or-append xs ys 0 4 (omega arith) in
    let rest = drop-append-le 5 xs ys (omega arith) in
    let batch = take-append-le (length_field xs - 1) (drop 5 xs) ys (omega (arith, length-drop 5 xs)) in
    rw (size-front xs ys (omega arith), client, rest, batch)

-- ---- the first bytes of a buffer

module _ (held : List ℕ) (have : ℕ) (within : have ≤ length held) where
  pub there : length (take have held) ≡ have
  there = length-take-le have held within

  pub size_there : 4 ≤ have → length_field (take have held) ≡ length_field held
  size_there h =
      let front : 4 ≤ length (take have held) = omega (arith, there) in
      sym (size-front (take have held) (drop have held) front) ∙ ap length_field (take-append-drop have held)

  -- the entry, as it lies in the buffer
  pub entry_there : 1 ≤ length_field (take have held) → 4 + length_field (take have held) ≤ have → entry_of (take have held) ≡ entry_in held (4 + length_field (take have held))
  entry_there some h =
      let all : 4 + length_field (take have held) ≤ length (take have held) = omega (arith, there) in
      let body : 4 + length_field (take have held) - 5 ≡ length_field held - 1 = omega (arith, size_there (omega arith)) in
      sym (entry-front (take have held) (drop have held) some all) ∙ ap entry_of (take-append-drop have held)
      ∙ ap (λ (n : ℕ). record { client = get_or held 4 0; batch = take n (drop 5 held) }) (sym body)

-- ---- of an edition

module _ (edition : Edition) where
  -- ---- what is decided

  module _ (bytes : List ℕ) (used : ℕ) where
    pub after_record_bytes-short : length bytes < 4 → after_record_bytes edition bytes used ≡ wait_for_more (length bytes) used
    unfolding after_record_bytes
    after_record_bytes-short h = rw (lt-ltb (length bytes) 4 h)

    pub after_record_bytes-bad : 4 ≤ length bytes → bad_size edition (length_field bytes) ≡ true → after_record_bytes edition bytes used ≡ record { reader = record { stage = Ended; buffered = 0 }; used = used; found = BadRecord }
    unfolding after_record_bytes
    after_record_bytes-bad h bad = rw (le-ltb (length bytes) 4 h, bad)

    pub after_record_bytes_part : 4 ≤ length bytes → bad_size edition (length_field bytes) ≡ false → length bytes < 4 + length_field bytes → after_record_bytes edition bytes used ≡ wait_for_more (length bytes) used
    unfolding after_record_bytes
    after_record_bytes_part h good part = rw (le-ltb (length bytes) 4 h, good, lt-ltb (length bytes) (4 + length_field bytes) part)

    pub after_record_bytes-whole : bad_size edition (length_field bytes) ≡ false → 4 + length_field bytes ≤ length bytes
        → after_record_bytes edition bytes used ≡ record { reader = record { stage = Records; buffered = 0 }; used = used; found = Record (4 + length_field bytes) }
    unfolding after_record_bytes
    after_record_bytes-whole good all =
        let h : 4 ≤ length bytes = omega arith in
        rw (le-ltb (length bytes) 4 h, good, le-ltb (length bytes) (4 + length_field bytes) all)

  module _ (bytes : List ℕ) where
    pub bytes_wanted-short : length bytes < 4 → bytes_wanted edition bytes ≡ 4 - length bytes
    unfolding bytes_wanted
    bytes_wanted-short h = rw (lt-ltb (length bytes) 4 h)

    pub bytes_wanted-bad : 4 ≤ length bytes → bad_size edition (length_field bytes) ≡ true → bytes_wanted edition bytes ≡ 0
    unfolding bytes_wanted
    bytes_wanted-bad h bad = rw (le-ltb (length bytes) 4 h, bad)

    pub bytes_wanted-rest : 4 ≤ length bytes → bad_size edition (length_field bytes) ≡ false → bytes_wanted edition bytes ≡ 4 + length_field bytes - length bytes
    unfolding bytes_wanted
    bytes_wanted-rest h good = rw (le-ltb (length bytes) 4 h, good)

  -- ---- of the first bytes of a buffer

  module _ (held : List ℕ) (have : ℕ) (within : have ≤ length held) where
    pub have-short : have < 4 → 4 - have ≡ bytes_wanted edition (take have held)
    have-short h =
        let few : length (take have held) < 4 = omega (arith, there held have within) in
        sym (bytes_wanted-short (take have held) few ∙ ap (λ (n : ℕ). 4 - n) (there held have within))

    module _ (size : ℕ) (size_is : size ≡ length_field held) (h : 4 ≤ have) where
      four : 4 ≤ length (take have held)
      four = omega (arith, there held have within)

      same : length_field (take have held) ≡ size
      same = size_there held have within h ∙ sym size_is

      judged : (b : Bool) → bad_size edition size ≡ b → bad_size edition (length_field (take have held)) ≡ b
      judged b e = ap (bad_size edition) same ∙ e

      pub have-bad : bad_size edition size ≡ true → 0 ≡ bytes_wanted edition (take have held)
      have-bad bad = sym (bytes_wanted-bad (take have held) four (judged true bad))

      pub have-rest : bad_size edition size ≡ false → 4 + size - have ≡ bytes_wanted edition (take have held)
      have-rest good = sym (bytes_wanted-rest (take have held) four (judged false good) ∙ rw (same, there held have within))

      pub decides_bad : (used : ℕ) → bad_size edition size ≡ true → record { reader = record { stage = Ended; buffered = 0 }; used = used; found = BadRecord } ≡ after_record_bytes edition (take have held) used
      decides_bad used bad = sym (after_record_bytes-bad (take have held) used four (judged true bad))

      pub decides_part : (used : ℕ) → bad_size edition size ≡ false → have < 4 + size → wait_for_more have used ≡ after_record_bytes edition (take have held) used
      decides_part used good part =
          let less : length (take have held) < 4 + length_field (take have held) = omega (arith, there held have within, same) in
          sym (after_record_bytes_part (take have held) used four (judged false good) less ∙ rw (there held have within))

      pub decides_whole : (used : ℕ) → bad_size edition size ≡ false → 4 + size ≤ have
          → record { reader = record { stage = Records; buffered = 0 }; used = used; found = Record (4 + size) } ≡ after_record_bytes edition (take have held) used
      decides_whole used good all =
          let full : 4 + length_field (take have held) ≤ length (take have held) = omega (arith, there held have within, same) in
          sym (after_record_bytes-whole (take have held) used (judged false good) full ∙ rw same)

    pub decides_short : (used : ℕ) → have < 4 → wait_for_more have used ≡ after_record_bytes edition (take have held) used
    decides_short used h =
        let few : length (take have held) < 4 = omega (arith, there held have within) in
        sym (after_record_bytes-short (take have held) used few ∙ rw (there held have within))
