-- Playing a script from a place in it: what is written so far and what is still to come make up the whole.
use mathlib.Core.Path.{◌≡◌, refl, ap, sym, ◌∙◌}
use mathlib.Core.List.{List, [], ◌∷◌, ◌++◌, append-nil, append_assoc}
use Prim.Native.Nat.{ℕ, zero, suc, ◌+◌, ◌*◌, ◌-◌, ◌≤◌}
use native.Mathlib.Omega.{arith}
use lib.ListN.{length, take, drop, length-drop, take-append-drop}
use lib.Seq.{drop-drop, take_all, length-take-le}
use Rattle.word.specs.Word.{words_bytes}
use Rattle.word.specs.Splice.{spliced}
use Rattle.word.proofs.Splice.{take-spliced, drop-spliced}
use Rattle.word.proofs.Written.{length-bytes}
use Rattle.model.specs.Calls.{Call, opens, submit, run, pending, begin, piece, cancel, close, Answer, opened, accepted, completed, ready, missing, done, refused}
use Rattle.claims.specs.Engine.{State, perform_call, answers_of, state_after}
use Rattle.script.specs.Script.{ended, parsed, parse_call, decode}
use Rattle.script_player.specs.Answers.{plain_words, piece_answer_words, answer_words, answer_bytes}
use Rattle.script_player.specs.CallsMatch.{CallMatches, CallsMatch}

-- ---- an answer has six words

plain_six : (a : Answer) → length (plain_words a) ≡ 6
unfolding plain_words
plain_six (opened c) = refl
plain_six (accepted t) = refl
plain_six (completed c t v) = refl
plain_six (ready n) = refl
plain_six (missing n) = refl
plain_six done = refl
plain_six (refused n) = refl

piece_six : (a : Answer) → length (piece_answer_words a) ≡ 6
unfolding piece_answer_words plain_words
piece_six (opened c) = refl
piece_six (accepted t) = refl
piece_six (completed c t v) = refl
piece_six (ready n) = refl
piece_six (missing n) = refl
piece_six done = refl
piece_six (refused n) = refl

pub six_words : (call : Call) (a : Answer) → length (answer_words call a) ≡ 6
six_words (opens w) = plain_six
six_words (submit client bytes) = plain_six
six_words run = plain_six
six_words (pending client) = plain_six
six_words (begin client total) = plain_six
six_words (piece client bytes) = piece_six
six_words (cancel client) = plain_six
six_words (close client) = plain_six

-- the bytes of a part of a list that is lent from a place on
pub rest-is : (l : List ℕ) (at : ℕ) → at ≤ length l → take (length l - at) (drop at l) ≡ drop at l
rest-is l at h = take_all (length l - at) (drop at l) (simp length-drop (omega arith))

-- ---- the next call

decode-more : (n : ℕ) (bytes rest : List ℕ) (call : Call) → parse_call bytes ≡ parsed call rest → decode (n + 1) bytes ≡ call ∷ decode n rest
unfolding decode
decode-more n bytes rest call e = let more : n + 1 ≡ suc n = omega arith in rw (more, e)

pub decode-end : (n : ℕ) (bytes : List ℕ) → parse_call bytes ≡ ended → decode n bytes ≡ []
unfolding decode
decode-end zero bytes e = refl
decode-end (suc n) bytes e = rw e

pub decode-none : (n : ℕ) (bytes : List ℕ) → n ≡ 0 → decode n bytes ≡ []
unfolding decode
decode-none n bytes e = rw e

module _ (n : ℕ) (script : List ℕ) (s₀ : State) (answers₀ : List ℕ) where
  -- `rest` is what is left of the script, `count` bytes of answers are written, and there is room for `left` more answers
  pub record Going (rest : List ℕ) (count left : ℕ) (s : State) (answers : List ℕ) : Type 0 where
    pub answered : answer_bytes (decode n script) (answers_of (decode n script) s₀) ≡ take count answers ++ answer_bytes (decode left rest) (answers_of (decode left rest) s)
    pub end : state_after (decode n script) s₀ ≡ state_after (decode left rest) s
    pub kept : drop count answers ≡ drop count answers₀

  pub going_start : (count left : ℕ) → count ≡ 0 → left ≡ n → Going script count left s₀ answers₀
  going_start count left e f = rw (e, f) (record { answered = refl; end = refl; kept = refl })

  -- a call is played and its answer is written
  pub going_next : (bytes rest : List ℕ) (count left count' left' : ℕ) (s after : State) (answers words : List ℕ) (call : Call) → Going bytes count left s answers → left ≡ left' + 1 → count' ≡ count + 24 →
      count + 24 ≤ length answers → parse_call bytes ≡ parsed call rest → CallMatches call s after words →
      Going rest count' left' after (spliced count (words_bytes words) answers)
  unfolding answers_of state_after answer_bytes
  going_next bytes rest count left count' left' s after answers words call G less next fits e P =
      let calls : decode left bytes ≡ call ∷ decode left' rest = rw less (decode-more left' bytes rest call e) in
      let long : length (words_bytes words) ≡ 24 = length-bytes words ∙ ap (λ (ws : List ℕ). 4 * length ws) P.answer ∙ ap (λ (k : ℕ). 4 * k) (six_words call (perform_call call s).answer) in
      let front : take (count + 24) (spliced count (words_bytes words) answers) ≡ take count answers ++ words_bytes words =
      rw (← long) (take-spliced count (words_bytes words) answers (omega arith))
      in
      let back : drop (count + 24) (spliced count (words_bytes words) answers) ≡ drop (count + 24) answers =
      rw (← long) (drop-spliced count (words_bytes words) answers (omega arith))
      in
      rw next
      (record {
        answered = G.answered ∙ rw (calls, front, append_assoc, P.answer, P.state);
        end = G.end ∙ rw (calls, P.state);
        kept = back ∙ sym (drop-drop 24 count answers) ∙ ap (drop 24) G.kept ∙ drop-drop 24 count answers₀;
      })

  -- no call is left, or no room
  pub going_end : (rest : List ℕ) (count left : ℕ) (s : State) (answers : List ℕ) → Going rest count left s answers → count ≤ length answers → decode left rest ≡ [] →
      CallsMatch (decode n script) s₀ answers₀ count s.ring s.memory answers
  unfolding answers_of state_after answer_bytes
  going_end rest count left s answers G fits e =
      let bytes : answer_bytes (decode n script) (answers_of (decode n script) s₀) ≡ take count answers = G.answered ∙ rw e (append-nil (take count answers)) in
      let last : state_after (decode n script) s₀ ≡ s = G.end ∙ rw e in
      record {
        returned = sym (ap length bytes ∙ length-take-le count answers fits);
        bytes = sym (rw (bytes, ← G.kept) (take-append-drop count answers));
        memory_end = rw last;
        ring_end = rw last;
      }
