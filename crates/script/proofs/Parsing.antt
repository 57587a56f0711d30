-- What each test on a script's bytes says of the call that they begin with.
use mathlib.Core.Path.{◌≡◌, refl}
use mathlib.Core.List.{List, [], ◌∷◌}
use Prim.Native.Nat.{ℕ, ◌+◌, ◌≤◌, ◌<◌}
use native.Mathlib.Omega.{arith}
use lib.ListN.{length, take, drop, get_or}
use lib.Seq.{drop-drop}
use borrow.Author.Tests.{lt-ltb, le-ltb, eq-eqb, ne_eqb}
use Rattle.word.specs.Word.{le32_at}
use Rattle.model.specs.Calls.{Call, opens, submit, pending, begin, piece, cancel, close}
use Rattle.script.specs.Script.{ended, parsed, parse_open, parse_bytes, parse_run, parse_client, parse_begin, parse_call}

module _ (bytes : List ℕ) where
  pub open_short : length bytes < 9 → parse_open bytes ≡ ended
  open_short h = rw (lt-ltb (length bytes) 9 h)

  pub open_long : 9 ≤ length bytes → parse_open bytes ≡ parsed (opens (record { start = le32_at bytes 1; length = le32_at bytes 5 })) (drop 9 bytes)
  open_long h = rw (le-ltb (length bytes) 9 h)

  -- a client and bytes
  pub bytes-short : (call : ℕ → List ℕ → Call) → length bytes < 6 + le32_at bytes 2 → parse_bytes call bytes ≡ ended
  bytes-short call h = rw (lt-ltb (length bytes) (6 + le32_at bytes 2) h)

  pub bytes_long : (call : ℕ → List ℕ → Call) → 6 + le32_at bytes 2 ≤ length bytes →
      parse_bytes call bytes ≡ parsed (call (get_or bytes 1 0) (take (le32_at bytes 2) (drop 6 bytes))) (drop (6 + le32_at bytes 2) bytes)
  bytes_long call h = rw (le-ltb (length bytes) (6 + le32_at bytes 2) h)

  -- cut out of the bytes after the length
  pub bytes_cut : (call : ℕ → List ℕ → Call) (size : ℕ) (batch rest : List ℕ) → size ≡ le32_at bytes 2 → 6 + size ≤ length bytes → batch ≡ take size (drop 6 bytes) → rest ≡ drop size (drop 6 bytes) →
      parse_bytes call bytes ≡ parsed (call (get_or bytes 1 0) batch) rest
  bytes_cut call size batch rest e h b r = rw (bytes_long call (rw e at h), b, r, e, drop-drop (le32_at bytes 2) 6 bytes)

  pub begin-short : length bytes < 6 → parse_begin bytes ≡ ended
  begin-short h = rw (lt-ltb (length bytes) 6 h)

  pub begin_long : 6 ≤ length bytes → parse_begin bytes ≡ parsed (begin (get_or bytes 1 0) (le32_at bytes 2)) (drop 6 bytes)
  begin_long h = rw (le-ltb (length bytes) 6 h)

  -- a client alone
  pub client-short : (call : ℕ → Call) → length bytes < 2 → parse_client call bytes ≡ ended
  client-short call h = rw (lt-ltb (length bytes) 2 h)

  pub client_long : (call : ℕ → Call) → 2 ≤ length bytes → parse_client call bytes ≡ parsed (call (get_or bytes 1 0)) (drop 2 bytes)
  client_long call h = rw (le-ltb (length bytes) 2 h)

-- ---- by the opcode

pub next-none : (bytes : List ℕ) → length bytes ≡ 0 → parse_call bytes ≡ ended
unfolding parse_call
next-none [] e = refl
next-none (o ∷ body) e = absurd (omega arith)

pub next_open : (bytes : List ℕ) → 0 < length bytes → get_or bytes 0 0 ≡ 0 → parse_call bytes ≡ parse_open bytes
unfolding parse_call
next_open [] h e = absurd (omega arith)
next_open (o ∷ body) h e = rw (eq-eqb o 0 e)

pub next-submit : (bytes : List ℕ) → 0 < length bytes → get_or bytes 0 0 ≡ 1 → parse_call bytes ≡ parse_bytes submit bytes
unfolding parse_call
next-submit [] h e = absurd (omega arith)
next-submit (o ∷ body) h e = rw (ne_eqb o 0 (λ z. omega arith), eq-eqb o 1 e)

pub next-run : (bytes : List ℕ) → 0 < length bytes → get_or bytes 0 0 ≡ 2 → parse_call bytes ≡ parse_run bytes
unfolding parse_call
next-run [] h e = absurd (omega arith)
next-run (o ∷ body) h e = rw (ne_eqb o 0 (λ z. omega arith), ne_eqb o 1 (λ z. omega arith), eq-eqb o 2 e)

pub next-pending : (bytes : List ℕ) → 0 < length bytes → get_or bytes 0 0 ≡ 3 → parse_call bytes ≡ parse_client pending bytes
unfolding parse_call
next-pending [] h e = absurd (omega arith)
next-pending (o ∷ body) h e = rw (ne_eqb o 0 (λ z. omega arith), ne_eqb o 1 (λ z. omega arith), ne_eqb o 2 (λ z. omega arith), eq-eqb o 3 e)

pub next-begin : (bytes : List ℕ) → 0 < length bytes → get_or bytes 0 0 ≡ 4 → parse_call bytes ≡ parse_begin bytes
unfolding parse_call
next-begin [] h e = absurd (omega arith)
next-begin (o ∷ body) h e = rw (ne_eqb o 0 (λ z. omega arith), ne_eqb o 1 (λ z. omega arith), ne_eqb o 2 (λ z. omega arith), ne_eqb o 3 (λ z. omega arith), eq-eqb o 4 e)

pub next-piece : (bytes : List ℕ) → 0 < length bytes → get_or bytes 0 0 ≡ 5 → parse_call bytes ≡ parse_bytes piece bytes
unfolding parse_call
next-piece [] h e = absurd (omega arith)
next-piece (o ∷ body) h e = rw (ne_eqb o 0 (λ z. omega arith), ne_eqb o 1 (λ z. omega arith), ne_eqb o 2 (λ z. omega arith), ne_eqb o 3 (λ z. omega arith), ne_eqb o 4 (λ z. omega arith), eq-eqb o 5 e)

pub next-cancel : (bytes : List ℕ) → 0 < length bytes → get_or bytes 0 0 ≡ 6 → parse_call bytes ≡ parse_client cancel bytes
unfolding parse_call
next-cancel [] h e = absurd (omega arith)
next-cancel (o ∷ body) h e = rw (ne_eqb o 0 (λ z. omega arith), ne_eqb o 1 (λ z. omega arith), ne_eqb o 2 (λ z. omega arith), ne_eqb o 3 (λ z. omega arith), ne_eqb o 4 (λ z. omega arith), ne_eqb o 5 (λ z. omega arith), eq-eqb o 6 e)

pub next-close : (bytes : List ℕ) → 0 < length bytes → get_or bytes 0 0 ≡ 7 → parse_call bytes ≡ parse_client close bytes
unfolding parse_call
next-close [] h e = absurd (omega arith)
next-close (o ∷ body) h e = rw (ne_eqb o 0 (λ z. omega arith), ne_eqb o 1 (λ z. omega arith), ne_eqb o 2 (λ z. omega arith), ne_eqb o 3 (λ z. omega arith), ne_eqb o 4 (λ z. omega arith), ne_eqb o 5 (λ z. omega arith), ne_eqb o 6 (λ z. omega arith), eq-eqb o 7 e)

pub next_unknown : (bytes : List ℕ) → 0 < length bytes → (get_or bytes 0 0 ≡ 0 → ⊥) → (get_or bytes 0 0 ≡ 1 → ⊥) → (get_or bytes 0 0 ≡ 2 → ⊥) → (get_or bytes 0 0 ≡ 3 → ⊥) →
    (get_or bytes 0 0 ≡ 4 → ⊥) → (get_or bytes 0 0 ≡ 5 → ⊥) → (get_or bytes 0 0 ≡ 6 → ⊥) → (get_or bytes 0 0 ≡ 7 → ⊥) → parse_call bytes ≡ ended
unfolding parse_call
next_unknown [] h n0 n1 n2 n3 n4 n5 n6 n7 = absurd (omega arith)
next_unknown (o ∷ body) h n0 n1 n2 n3 n4 n5 n6 n7 = rw (ne_eqb o 0 n0, ne_eqb o 1 n1, ne_eqb o 2 n2, ne_eqb o 3 n3, ne_eqb o 4 n4, ne_eqb o 5 n5, ne_eqb o 6 n6, ne_eqb o 7 n7)
