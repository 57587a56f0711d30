-- A file may be cut anywhere: what a step finds, and then the file from where it leaves the reading, is the file from where it began.
use mathlib.Core.Path.{◌≡◌, refl, sym, ap, subst, ◌∙◌}
use mathlib.Core.Bool.{Bool, true, false, cond, ◌&&◌}
use mathlib.Core.Logic.{◌⊎◌, inl, inr}
use mathlib.Core.List.{List, [], ◌∷◌, ◌++◌, append_assoc, append-nil}
use Prim.Native.Nat.{ℕ, zero, suc, ◌+◌, ◌-◌, ◌≤◌, ◌<◌, min}
use native.Mathlib.Omega.{arith}
use lib.ListN.{length, get_or, take, drop, length-append, length-take, length-drop}
use lib.Seq.{length-take-le, take_all, drop_at, take-append_seam}
use lib.Dec.{eqb, leb, ltb}
use borrow.Author.Tests.{lt-ltb, le-ltb, le-leb, leb-true, ltb-true}
use Rattle.word.specs.Splice.{spliced}
use Rattle.word.proofs.Splice.{spliced-none}
use Rattle.word.proofs.Tests.{split, and-true}
use Rattle.ring.specs.Copied.{copied_in}
use Rattle.ring.proofs.Copied.{copied-one}
use Rattle.records.specs.declared.Edition.{Edition}
use Rattle.records.specs.declared.Stage.{Stage}
use Rattle.records.specs.declared.Stage.TheVariants.{Version, Records, Ended}
use Rattle.records.specs.declared.Reader.{Reader}
use Rattle.records.specs.declared.Found.TheVariants.{Nothing, BadVersion}
use Rattle.records.specs.declared.Taken.{Taken}
use Rattle.records.specs.Records.{Entry, File, bad_version, bad_record, cut_record, file_ends, cons_entry, version_of, length_field, bad_size, entry_of, records_from, records}
use Rattle.records.specs.Reading.{file_from, file_in, file_at, entry_in, onto, room_of, bytes_wanted, Due, ReaderReady, EndedIfBad, Takes, Lies, ending_at, after_record_bytes, version_taken, nothing_taken, kept_in, record_taken, taken_in, buffer_suffices, taken_by, held_after}
use Rattle.records.proofs.Bytes.{room-between, good-size, size-front, entry-front, after_record_bytes-short, after_record_bytes-bad, after_record_bytes_part, after_record_bytes-whole, bytes_wanted-short, bytes_wanted-bad, bytes_wanted-rest, there, entry_there}

-- ---- lists

take_least : (n k : ℕ) (xs : List ℕ) → k ≡ min n (length xs) → take k xs ≡ take n xs
take_least n k xs e = go (split n (length xs))
  where
    go : (n < length xs) ⊎ (length xs ≤ n) → take k xs ≡ take n xs
    go (inl h) =
        let eq : k ≡ n = omega arith in
        ap (λ (i : ℕ). take i xs) eq
    go (inr h) = take_all k xs (omega arith) ∙ sym (take_all n xs h)

-- bytes put behind those that are there
kept_there : (h : ℕ) (kept held : List ℕ) → take (length (take h held ++ kept)) (spliced h kept held) ≡ take h held ++ kept
unfolding spliced
kept_there h kept held =
    let rest : List ℕ = drop (h + length kept) held in
    rw (sym (append_assoc (take h held) kept rest)) (take-append_seam (take h held ++ kept) rest)

module _ (edition : Edition) where
  -- ---- fuel

  -- the record at the front, with what comes of the bytes behind it
  abbrev front : List ℕ → File → File
  front bytes rest =
      cond (ltb (length bytes) 4) (file_ends cut_record)
      (cond (bad_size edition (length_field bytes)) (file_ends bad_record)
      (cond (ltb (length bytes) (4 + length_field bytes)) (file_ends cut_record)
      (cons_entry (entry_of bytes) rest)))

  fuel_free : (f g : ℕ) (bytes : List ℕ) → length bytes ≤ f → length bytes ≤ g → records_from edition f bytes ≡ records_from edition g bytes
  unfolding records_from
  fuel_free zero zero bytes p q = refl
  fuel_free zero (suc g) [] p q = refl
  fuel_free zero (suc g) (b ∷ more) p q = absurd (omega arith)
  fuel_free (suc f) zero [] p q = refl
  fuel_free (suc f) zero (b ∷ more) p q = absurd (omega arith)
  fuel_free (suc f) (suc g) [] p q = refl
  fuel_free (suc f) (suc g) (b ∷ more) p q =
      let less = length-drop (4 + length_field (b ∷ more)) (b ∷ more) in
      ap (front (b ∷ more)) (fuel_free f g (drop (4 + length_field (b ∷ more)) (b ∷ more)) (omega arith) (omega arith))

  file_open : (bytes : List ℕ) → 1 ≤ length bytes → file_from edition bytes ≡ front bytes (file_from edition (drop (4 + length_field bytes) bytes))
  unfolding records_from
  file_open [] h = absurd (omega arith)
  file_open (b ∷ more) h =
      let less = length-drop (4 + length_field (b ∷ more)) (b ∷ more) in
      ap (front (b ∷ more)) (fuel_free (length more) (length (drop (4 + length_field (b ∷ more)) (b ∷ more))) (drop (4 + length_field (b ∷ more)) (b ∷ more)) (omega arith) (omega arith))

  module _ (bytes : List ℕ) where
    file-short : 1 ≤ length bytes → length bytes < 4 → file_from edition bytes ≡ file_ends cut_record
    file-short some h = file_open bytes some ∙ rw (lt-ltb (length bytes) 4 h)

    module _ (h : 4 ≤ length bytes) where
      file-bad : bad_size edition (length_field bytes) ≡ true → file_from edition bytes ≡ file_ends bad_record
      file-bad bad = file_open bytes (omega arith) ∙ rw (le-ltb (length bytes) 4 h, bad)

      file_part : bad_size edition (length_field bytes) ≡ false → length bytes < 4 + length_field bytes → file_from edition bytes ≡ file_ends cut_record
      file_part good part = file_open bytes (omega arith) ∙ rw (le-ltb (length bytes) 4 h, good, lt-ltb (length bytes) (4 + length_field bytes) part)

      file-whole : bad_size edition (length_field bytes) ≡ false → 4 + length_field bytes ≤ length bytes → file_from edition bytes ≡ cons_entry (entry_of bytes) (file_from edition (drop (4 + length_field bytes) bytes))
      file-whole good all = file_open bytes (omega arith) ∙ rw (le-ltb (length bytes) 4 h, good, le-ltb (length bytes) (4 + length_field bytes) all)

  -- ---- by cases: how far the bytes of a record are there

  data Reach (bytes : List ℕ) : Type 0 where
    short : length bytes < 4 → Reach bytes
    bad : 4 ≤ length bytes → bad_size edition (length_field bytes) ≡ true → Reach bytes
    part : 4 ≤ length bytes → bad_size edition (length_field bytes) ≡ false → length bytes < 4 + length_field bytes → Reach bytes
    full : 4 ≤ length bytes → bad_size edition (length_field bytes) ≡ false → 4 + length_field bytes ≤ length bytes → Reach bytes

  reach : (bytes : List ℕ) → Reach bytes
  reach bytes = go (split (length bytes) 4)
    where
      last : 4 ≤ length bytes → bad_size edition (length_field bytes) ≡ false → (length bytes < 4 + length_field bytes) ⊎ (4 + length_field bytes ≤ length bytes) → Reach bytes
      last h good (inl less) = part h good less
      last h good (inr more) = full h good more

      judge : 4 ≤ length bytes → (b : Bool) → bad_size edition (length_field bytes) ≡ b → Reach bytes
      judge h true e = bad h e
      judge h false e = last h e (split (length bytes) (4 + length_field bytes))

      go : (length bytes < 4) ⊎ (4 ≤ length bytes) → Reach bytes
      go (inl h) = short h
      go (inr h) = judge h (bad_size edition (length_field bytes)) refl

  -- ---- the bytes in the buffer are decided

  module _ (held : List ℕ) (have used : ℕ) (within : have ≤ length held) where
    abbrev bytes : List ℕ
    bytes = take have held

    -- no more bytes than the record has
    abbrev Exact : Type 0
    Exact = 4 ≤ length bytes → bad_size edition (length_field bytes) ≡ false → length bytes ≤ 4 + length_field bytes

    record Decides (d : Taken) : Type 0 where
      file : (rest : List ℕ) → file_from edition (bytes ++ rest) ≡ onto d.found held (file_at edition d.reader held rest)
      over : EndedIfBad d.found d.reader.stage
      few : d.reader.buffered < room_of edition
      due : Due edition d.reader.stage (take d.reader.buffered held)

    itself : take (length bytes) held ≡ bytes
    itself = ap (λ (n : ℕ). take n held) (there held have within)

    decides_by : Reach bytes → Exact → Decides (after_record_bytes edition bytes used)
    decides_by (short h) exact = rw (after_record_bytes-short edition bytes used h) (record {
      file = λ rest. rw itself;
      over = tt;
      few = omega (arith, room-between edition);
      due = rw (itself, bytes_wanted-short edition bytes h) (omega arith);
    })
    decides_by (bad h is) exact = rw (after_record_bytes-bad edition bytes used h is) (record {
      file = λ rest.
          let long : 4 ≤ length (bytes ++ rest) = omega (arith, length-append bytes rest) in
          file-bad (bytes ++ rest) long (ap (bad_size edition) (size-front bytes rest h) ∙ is);
      over = refl;
      few = omega (arith, room-between edition);
      due = tt;
    })
    decides_by (part h is less) exact = rw (after_record_bytes_part edition bytes used h is less) (record {
      file = λ rest. rw itself;
      over = tt;
      few = omega (arith, (good-size edition (length_field bytes) is).1);
      due = rw (itself, bytes_wanted-rest edition bytes h is) (omega arith);
    })
    decides_by (full h is more) exact = rw (after_record_bytes-whole edition bytes used is more) (record {
      file = λ rest.
          let long : 4 ≤ length (bytes ++ rest) = omega (arith, length-append bytes rest) in
          let same = size-front bytes rest h in
          let all : 4 + length_field (bytes ++ rest) ≤ length (bytes ++ rest) = omega (arith, length-append bytes rest) in
          let some = (good-size edition (length_field bytes) is).0 in
          let end : length bytes ≡ 4 + length_field (bytes ++ rest) = omega (arith, exact h is) in
          let behind = drop_at bytes rest (4 + length_field (bytes ++ rest)) end in
          file-whole (bytes ++ rest) long (ap (bad_size edition) same ∙ is) all
          ∙ ap (λ (e : Entry). cons_entry e (file_from edition (drop (4 + length_field (bytes ++ rest)) (bytes ++ rest)))) (entry-front bytes rest some more ∙ entry_there held have within some (omega (arith, there held have within)))
          ∙ ap (λ (xs : List ℕ). cons_entry (entry_in held (4 + length_field bytes)) (file_from edition xs)) behind;
      over = tt;
      few = omega (arith, room-between edition);
      due = rw (bytes_wanted-short edition [] (omega arith)) (omega arith);
    })

  -- no more bytes are taken than the record has
  exact_by : (bytes input : List ℕ) → 0 < bytes_wanted edition bytes → Reach bytes
      → let all : List ℕ = bytes ++ take (bytes_wanted edition bytes) input in 4 ≤ length all → bad_size edition (length_field all) ≡ false → length all ≤ 4 + length_field all
  exact_by bytes input some (short h) = λ long good.
      omega (arith, length-append bytes (take (bytes_wanted edition bytes) input), length-take (bytes_wanted edition bytes) input, bytes_wanted-short edition bytes h)
  exact_by bytes input some (bad h is) = absurd (omega (arith, bytes_wanted-bad edition bytes h is))
  exact_by bytes input some (part h is less) = λ long good.
      omega (arith, length-append bytes (take (bytes_wanted edition bytes) input), length-take (bytes_wanted edition bytes) input, bytes_wanted-rest edition bytes h is, size-front bytes (take (bytes_wanted edition bytes) input) h)
  exact_by bytes input some (full h is more) = absurd (omega (arith, bytes_wanted-rest edition bytes h is))

  -- ---- a step inside a record

  module _ (have : ℕ) (held input : List ℕ) (taken : ℕ) (held' : List ℕ) (t : Taken) (wanted : ℕ) (want : wanted ≡ bytes_wanted edition (take have held)) (fits : have + wanted ≤ room_of edition)
      (room : room_of edition ≤ length held) (same : length held' ≡ length held) (least : taken ≡ min wanted (length input)) (is_held_lem : held' ≡ copied_in held have (take taken input))
      (is : t ≡ after_record_bytes edition (take (have + taken) held') taken) where
    abbrev so_far : List ℕ
    so_far = take have held

    abbrev kept : List ℕ
    kept = kept_in edition Records so_far input

    kept-is : take taken input ≡ kept
    kept-is = take_least wanted taken input least ∙ ap (λ (n : ℕ). take n input) want

    size : length kept ≡ taken
    size = ap length (sym kept-is) ∙ length-take taken input ∙ omega arith

    -- the buffer after it
    pub record_held : held' ≡ spliced have kept held
    record_held =
        let small : length kept ≤ length held - have = omega (arith, size) in
        is_held_lem ∙ ap (copied_in held have) kept-is ∙ copied-one held have kept small

    all : take (have + taken) held' ≡ so_far ++ kept
    all =
        let count : length (so_far ++ kept) ≡ have + taken = length-append so_far kept ∙ omega (arith, size, length-take-le have held (omega arith)) in
        rw (record_held, sym count) (kept_there have kept held)

    -- what is taken, of any bytes
    pub record_exact : t ≡ record_taken edition so_far input
    record_exact = is ∙ ap (λ (xs : List ℕ). after_record_bytes edition xs taken) all ∙ ap (after_record_bytes edition (so_far ++ kept)) (sym size)

    pub record_takes : t.used ≡ taken → 0 < bytes_wanted edition so_far → Takes edition (record { stage = Records; buffered = have }) held input t held'
    record_takes used some =
        let exact : Exact held' (have + taken) taken (omega arith) = rw all (exact_by so_far input some (reach so_far)) in
        let d = decides_by held' (have + taken) taken (omega arith) (reach (take (have + taken) held')) exact in
        rw is (record {
          file = λ rest.
              ap (λ (n : ℕ). file_from edition (so_far ++ (take n input ++ rest))) (sym (ap (λ (x : Taken). x.used) is) ∙ used)
              ∙ ap (λ (xs : List ℕ). file_from edition (so_far ++ (xs ++ rest))) kept-is
              ∙ ap (file_from edition) (sym (append_assoc so_far kept rest))
              ∙ ap (λ (xs : List ℕ). file_from edition (xs ++ rest)) (sym all)
              ∙ d.file rest;
          over = d.over;
          ready = record { room = omega arith; few = d.few; due = d.due };
          some = λ one. let go : taken ≡ (after_record_bytes edition (take (have + taken) held') taken).used = sym used ∙ ap (λ (x : Taken). x.used) is in omega (arith, want);
        })

  -- ---- the other steps

  -- the version byte is one of the input
  pub version-used : (version : ℕ) → ((version_taken edition version).used ≡ 1) × ((room : ℕ) → Lies edition (version_taken edition version).found room)
  version-used version = go (eqb version (version_of edition))
    where
      go : (b : Bool) → let u : Taken = cond b (record { reader = record { stage = Records; buffered = 0 }; used = 1; found = Nothing }) (record { reader = record { stage = Ended; buffered = 0 }; used = 1; found = BadVersion }) in
          (u.used ≡ 1) × ((room : ℕ) → Lies edition u.found room)
      go true = (refl, λ room. tt)
      go false = (refl, λ room. tt)

  module _ (r : Reader) (held input : List ℕ) (t : Taken) (ready : ReaderReady edition r held) where
    -- nothing taken
    pub nothing-takes : length input ≡ 0 → t ≡ record { reader = r; used = 0; found = Nothing } → Takes edition r held input t held
    nothing-takes none is = rw is (record { file = λ rest. refl; over = tt; ready = ready; some = λ one. absurd (omega arith) })

    -- after the end
    pub ended-takes : r.stage ≡ Ended → t ≡ record { reader = r; used = length input; found = Nothing } → Takes edition r held input t held
    ended-takes stage is = rw is (record { file = λ rest. rw stage; over = tt; ready = ready; some = λ one. one })

    pub version-takes : r.stage ≡ Version → (length input ≡ 0 → ⊥) → t ≡ version_taken edition (get_or input 0 0) → Takes edition r held input t held
    unfolding records
    version-takes stage some is = rw is (go input some)
      where
        by : (b : Bool) (version : ℕ) (more : List ℕ)
            → let u : Taken = cond b (record { reader = record { stage = Records; buffered = 0 }; used = 1; found = Nothing }) (record { reader = record { stage = Ended; buffered = 0 }; used = 1; found = BadVersion }) in
            ((rest : List ℕ) → cond b (file_from edition rest) (file_ends bad_version) ≡ onto u.found held (file_at edition u.reader held rest)) × ReaderReady edition u.reader held × (1 ≤ u.used) × EndedIfBad u.found u.reader.stage
        by true version more = (λ rest. refl, record { room = ready.room; few = omega (arith, room-between edition); due = rw (bytes_wanted-short edition [] (omega arith)) (omega arith) }, omega arith, tt)
        by false version more = (λ rest. refl, record { room = ready.room; few = omega (arith, room-between edition); due = tt }, omega arith, refl)

        go : (xs : List ℕ) → (length xs ≡ 0 → ⊥) → Takes edition r held xs (version_taken edition (get_or xs 0 0)) held
        go [] some = absurd (some refl)
        go (version ∷ more) some =
            let all = by (eqb version (version_of edition)) version more in
            let one = (version-used version).0 in
            record { file = λ rest. rw (stage, one) (all.0 rest); over = all.3; ready = all.1; some = λ one. all.2 }

  -- ---- the end of the file

  pub file-ends : (r : Reader) (held : List ℕ) → ReaderReady edition r held → file_at edition r held [] ≡ file_ends (ending_at r.stage (length (take r.buffered held)))
  unfolding records records_from
  file-ends r held ready = go r.stage (take r.buffered held) ready.due
    where
      last : (bytes : List ℕ) → Reach bytes → 0 < bytes_wanted edition bytes → file_from edition bytes ≡ file_ends (ending_at Records (length bytes))
      last [] far some = refl
      last (b ∷ more) (short h) some = file-short (b ∷ more) (omega arith) h
      last (b ∷ more) (bad h is) some = absurd (omega (arith, bytes_wanted-bad edition (b ∷ more) h is))
      last (b ∷ more) (part h is less) some = file_part (b ∷ more) h is less
      last (b ∷ more) (full h is more') some = absurd (omega (arith, bytes_wanted-rest edition (b ∷ more) h is))

      go : (g : Stage) (bytes : List ℕ) → Due edition g bytes → file_in edition g bytes [] ≡ file_ends (ending_at g (length bytes))
      go Version bytes due = refl
      go Records bytes due = rw (append-nil bytes) (last bytes (reach bytes) due)
      go Ended bytes due = refl

  -- so no record is left
  pub ends-here : (r : Reader) (held : List ℕ) → ReaderReady edition r held → (file_at edition r held []).entries ≡ []
  ends-here r held ready = ap (λ (f : File). f.entries) (file-ends r held ready)

  -- ---- the test of the buffer

  pub ready_enough : (r : Reader) (held : List ℕ) → ReaderReady edition r held → buffer_suffices edition r held ≡ true
  ready_enough r held ready = rw (le-leb (room_of edition) (length held) ready.room, lt-ltb r.buffered (room_of edition) ready.few)

  pub enough_both : (r : Reader) (held : List ℕ) → buffer_suffices edition r held ≡ true → (room_of edition ≤ length held) × (r.buffered < room_of edition)
  enough_both r held e =
      let both = and-true (leb (room_of edition) (length held)) (ltb r.buffered (room_of edition)) e in
      (leb-true (room_of edition) (length held) both.0, ltb-true r.buffered (room_of edition) both.1)

  -- by the room that was asked for
  pub suffices_by : (r : Reader) (held : List ℕ) (room : ℕ) → room ≡ room_of edition → (b : Bool) → leb room (length held) && ltb r.buffered room ≡ b → buffer_suffices edition r held ≡ b
  suffices_by r held room is b e = rw (← is) e

  -- a reader inside a record
  pub inside-takes : (r : Reader) (held input : List ℕ) (t : Taken) (held' : List ℕ) → r.stage ≡ Records → (0 < bytes_wanted edition (take r.buffered held) → Takes edition (record { stage = Records; buffered = r.buffered }) held input t held')
      → ReaderReady edition r held → Takes edition r held input t held'
  inside-takes r held input t held' stage takes ready =
      let due : 0 < bytes_wanted edition (take r.buffered held) = rw stage at ready.due in
      subst (λ (g : Stage). Takes edition (record { stage = g; buffered = r.buffered }) held input t held') (sym stage) (takes due)

  -- ---- the step by itself

  module _ (r : Reader) (held input : List ℕ) (t : Taken) (held' : List ℕ) where
    abbrev Exactly : Type 0
    Exactly = (t ≡ taken_by edition r held input) × (held' ≡ held_after edition r held input)

    -- a buffer that does not suffice
    pub exactly_not : buffer_suffices edition r held ≡ false → t ≡ nothing_taken r 0 → held' ≡ held → Exactly
    unfolding taken_by held_after
    exactly_not e is same = rw e (is, same)

    module _ (e : buffer_suffices edition r held ≡ true) where
      pub exactly_in : (g : Stage) → r.stage ≡ g → t ≡ taken_in edition g r (take r.buffered held) input → held' ≡ spliced r.buffered (kept_in edition g (take r.buffered held) input) held → Exactly
      unfolding taken_by held_after
      exactly_in g stage is buffer = rw e (
        is ∙ ap (λ (x : Stage). taken_in edition x r (take r.buffered held) input) (sym stage),
        buffer ∙ ap (λ (x : Stage). spliced r.buffered (kept_in edition x (take r.buffered held) input) held) (sym stage),
      )

      -- outside a record no byte is kept
      pub exactly_version : r.stage ≡ Version → held' ≡ held → t ≡ taken_in edition Version r (take r.buffered held) input → Exactly
      exactly_version stage same is = exactly_in Version stage is (same ∙ sym (spliced-none r.buffered held))

      pub exactly_ended : r.stage ≡ Ended → held' ≡ held → t ≡ nothing_taken r (length input) → Exactly
      exactly_ended stage same is = exactly_in Ended stage is (same ∙ sym (spliced-none r.buffered held))

  -- the version byte, if there is one
  pub version-none : (r : Reader) (bytes input : List ℕ) → length input ≡ 0 → taken_in edition Version r bytes input ≡ nothing_taken r 0
  version-none r bytes [] none = refl
  version-none r bytes (version ∷ more) none = absurd (omega arith)

  pub version-some : (r : Reader) (bytes input : List ℕ) → (length input ≡ 0 → ⊥) → taken_in edition Version r bytes input ≡ version_taken edition (get_or input 0 0)
  version-some r bytes [] some = absurd (some refl)
  version-some r bytes (version ∷ more) some = refl
