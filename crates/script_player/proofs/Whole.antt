-- Set up and the calls after it, in one buffer: the engine's answers are the model's by the promise of crate claims, and so is its ring.
use mathlib.Core.Path.{◌≡◌, refl, ap, sym, ◌∙◌}
use mathlib.Core.List.{List, [], ◌++◌, append-nil, append_assoc}
use mathlib.Core.Bool.{Bool, true, false, cond}
use Prim.Native.Nat.{ℕ, zero, suc, ◌+◌, ◌-◌, ◌/◌, ◌≤◌, ◌<◌}
use native.Mathlib.Omega.{arith}
use lib.ListN.{length, take, drop, get_or, length-append, length-drop}
use lib.Seq.{drop-drop, drop-length}
use lib.Dec.{eqb}
use borrow.Author.Tests.{lt-ltb, le-ltb, eq-eqb, ne_eqb}
use borrow.Rule.Slice.PartMut.{put_mid}
use Rattle.reset.specs.declared.ResetRule.{ResetRule}
use Rattle.word.specs.Word.{words_bytes}
use Rattle.word.specs.Splice.{spliced}
use Rattle.word.proofs.Splice.{length-spliced, take-spliced, drop-spliced}
use Rattle.word.proofs.Written.{length-bytes}
use Rattle.queue.specs.declared.Answer.TheVariants.{Done}
use Rattle.queue.specs.declared.Reply.{Reply}
use Rattle.queue.specs.Answers.{refusal_number_of, value_of, answer_unless_refused}
use Rattle.queue.specs.Calls.{set_up_result}
use Rattle.queue.specs.Refusals.{first_refusal, set_up_table}
use Rattle.queue.proofs.Preservation.{set-up-number}
use Rattle.model.specs.Calls.{Setup, Call}
use Rattle.model.specs.State.{initial_model}
use Rattle.model.specs.Model.{answers, after, model_after_all}
use Rattle.claims.specs.ModelProperties.{batch_semantics}
use Rattle.claims.specs.Engine.{State, mk_state, answers_of, SetUpAccepted, initial_state}
use Rattle.claims.specs.Ring.{ring_after_calls}
use Rattle.claims.proofs.SimulationRelation.{numbers_in}
use Rattle.claims.proofs.Ring.{ring-after}
use Rattle.claims.proofs.Theorem.{promise}
use Rattle.script.specs.Script.{decode}
use Rattle.engine.specs.Answers.{short_answer}
use Rattle.script_player.specs.Answers.{answer_bytes}
use Rattle.script_player.specs.CallsMatch.{CallsMatch}
use Rattle.script_player.specs.Played.{set_up_refusal_of, played_calls, answer_output, memory_after, ring_after, ScriptResult}
use Rattle.script_player.proofs.Going.{rest-is, decode-none}

-- ---- set up's own answer

value_set : (number : ℕ) → value_of (answer_unless_refused number Done) ≡ 0
unfolding answer_unless_refused
value_set zero = refl
value_set (suc n) = refl

set-up-value : (ring memory common : ℕ) (reset : ResetRule) → value_of (set_up_result ring memory common reset).answer ≡ 0
unfolding set_up_result
set-up-value ring memory common reset = value_set (first_refusal (set_up_table (record { ring = ring; memory = memory; common = common; reset = reset })))

pub set-up-words : (setup : Setup) (r : Reply) (words : List ℕ) → r ≡ set_up_result setup.ring setup.memory setup.common setup.reset →
    words ≡ short_answer (refusal_number_of r.answer) (value_of r.answer) → words ≡ short_answer (set_up_refusal_of setup) 0
set-up-words setup r words e w = w ∙ rw (e, set-up-value setup.ring setup.memory setup.common setup.reset, set-up-number (numbers_in setup))

-- ---- no call is played

module _ (setup : Setup) (ring memory script buffer : List ℕ) where
  -- memory and ring by the calls that are played
  memory_is : (cs : List Call) → played_calls setup (length buffer) script ≡ cs → memory_after setup ring memory script buffer ≡ (model_after_all (batch_semantics setup) setup (length ring) cs memory).memory
  unfolding memory_after
  memory_is cs e = ap (λ (played : List Call). (model_after_all (batch_semantics setup) setup (length ring) played memory).memory) e

  ring_is : (cs : List Call) → played_calls setup (length buffer) script ≡ cs → ring_after setup ring memory script buffer ≡ ring_after_calls setup (length ring) 0 cs (initial_model memory) ring
  unfolding ring_after
  ring_is cs e = ap (λ (played : List Call). ring_after_calls setup (length ring) 0 played (initial_model memory) ring) e

  nothing : played_calls setup (length buffer) script ≡ [] → (memory ≡ memory_after setup ring memory script buffer) × (ring ≡ ring_after setup ring memory script buffer)
  unfolding after ring_after_calls
  nothing e = (sym (memory_is [] e), sym (ring_is [] e))

  none-short : length buffer < 24 → played_calls setup (length buffer) script ≡ []
  unfolding played_calls
  none-short h = rw (decode-none (length buffer / 24 - 1) script (omega arith)) (same (eqb (set_up_refusal_of setup) 0))
    where
      same : (t : Bool) → ◌≡◌ {A = List Call} (cond t [] []) []
      same true = refl
      same false = refl

  -- no room for set up's answer
  pub played-short : length buffer < 24 → ScriptResult setup ring memory script buffer 0 ring memory buffer
  unfolding answer_output
  played-short h =
      let t = lt-ltb (length buffer) 24 h in
      let n = nothing (none-short h) in
      record { returned = rw t; bytes = rw t; memory_end = n.0; ring_end = n.1 }

  -- set up is refused
  pub played-refused : (words after : List ℕ) → 24 ≤ length buffer → words ≡ short_answer (set_up_refusal_of setup) 0 → (get_or words 0 0 ≡ 0 → ⊥) → after ≡ spliced 0 (words_bytes words) buffer →
      ScriptResult setup ring memory script buffer 24 ring memory after
  unfolding answer_output played_calls answers answer_bytes spliced
  played-refused words after room w bad e =
      let t = le-ltb (length buffer) 24 room in
      let number : set_up_refusal_of setup ≡ 0 → ⊥ = rw w at bad in
      let f = ne_eqb (set_up_refusal_of setup) 0 number in
      let n = nothing (rw f) in
      let from : 0 + length (words_bytes words) ≡ length (words_bytes words) = omega arith in
      let long : length (words_bytes (short_answer (set_up_refusal_of setup) 0)) ≡ 24 = length-bytes (short_answer (set_up_refusal_of setup) 0) in
      record {
        returned = rw (t, f, append-nil) (sym long);
        bytes = e ∙ rw (from, t, f, append-nil, w);
        memory_end = n.0;
        ring_end = n.1;
      }

-- ---- the calls are played

module _ (setup : Setup) (ring memory script buffer : List ℕ) (room : 24 ≤ length buffer) (ok : set_up_refusal_of setup ≡ 0) where
  accepted : SetUpAccepted setup
  accepted = set-up-number (numbers_in setup) ∙ ok

  played_are : played_calls setup (length buffer) script ≡ decode (length (drop 24 buffer) / 24) script
  unfolding played_calls
  played_are =
      let left : length buffer / 24 - 1 ≡ length (drop 24 buffer) / 24 = rw length-drop (omega arith) in
      rw (eq-eqb (set_up_refusal_of setup) 0 ok, left)

  -- what is written, in the engine's answers
  output-words : answer_output setup ring memory script buffer ≡ words_bytes (short_answer 0 0) ++ answer_bytes (decode (length (drop 24 buffer) / 24) script) (answers_of (decode (length (drop 24 buffer) / 24) script) (initial_state setup ring memory))
  unfolding answer_output
  output-words =
      let like = (promise setup ring accepted).like_model (decode (length (drop 24 buffer) / 24) script) memory in
      rw (le-ltb (length buffer) 24 room, played_are, ok, like.every_answer)

  pub played-on : (count : ℕ) (ring' memory' rest' : List ℕ) →
      CallsMatch (decode (length (drop 24 buffer) / 24) script) (initial_state setup ring memory) (drop 24 buffer) count ring' memory' rest' →
      ScriptResult setup ring memory script buffer (24 + count) ring' memory' (words_bytes (short_answer 0 0) ++ rest')
  played-on count ring' memory' rest' P =
      let cs : List Call = decode (length (drop 24 buffer) / 24) script in
      let like = (promise setup ring accepted).like_model cs memory in
      let said : List ℕ = answer_bytes cs (answers_of cs (initial_state setup ring memory)) in
      let long : length (words_bytes (short_answer 0 0)) ≡ 24 = length-bytes (short_answer 0 0) in
      let size : length (words_bytes (short_answer 0 0) ++ said) ≡ 24 + count = length-append (words_bytes (short_answer 0 0)) said ∙ rw (long, P.returned) in
      record {
        returned = rw output-words (sym size);
        bytes = rw (output-words, size, P.bytes, ← drop-drop count 24 buffer) (sym (append_assoc (words_bytes (short_answer 0 0)) said (drop count (drop 24 buffer))));
        memory_end = P.memory_end ∙ like.every_byte ∙ sym (memory_is setup ring memory script buffer cs played_are);
        ring_end = P.ring_end ∙ ring-after setup ring memory accepted cs ∙ sym (ring_is setup ring memory script buffer cs played_are);
      }

  -- the same in the code's values: the buffer `answered` after set up's answer, and the part of it after that, which is lent
  pub played-done : (words answer_unless_refused : List ℕ) (r : Reply) (count : ℕ) (ring' memory' rest' : List ℕ) → r ≡ set_up_result setup.ring setup.memory setup.common setup.reset →
      words ≡ short_answer (set_up_refusal_of setup) 0 → answer_unless_refused ≡ spliced 0 (words_bytes words) buffer →
      CallsMatch (decode (length (take (length answer_unless_refused - 24) (drop 24 answer_unless_refused)) / 24) script) (mk_state r.engine ring memory) (take (length answer_unless_refused - 24) (drop 24 answer_unless_refused)) count ring' memory' rest' →
      ScriptResult setup ring memory script buffer (24 + count) ring' memory' (put_mid 24 (length answer_unless_refused - 24) answer_unless_refused rest')
  played-done words answer_unless_refused r count ring' memory' rest' e w a P =
      let long : length (words_bytes words) ≡ 24 = length-bytes words ∙ rw w in
      let fits : 0 + length (words_bytes words) ≤ length buffer = omega arith in
      let model_after_all : 0 + length (words_bytes words) ≡ 24 = omega arith in
      let whole : length answer_unless_refused ≡ length buffer = rw a (length-spliced 0 (words_bytes words) buffer fits) in
      let front : take 24 answer_unless_refused ≡ words_bytes (short_answer 0 0) = rw (a, ← model_after_all) (take-spliced 0 (words_bytes words) buffer fits ∙ rw (w, ok)) in
      let past : drop 24 answer_unless_refused ≡ drop 24 buffer = rw (a, ← model_after_all) (drop-spliced 0 (words_bytes words) buffer fits) in
      let part : take (length answer_unless_refused - 24) (drop 24 answer_unless_refused) ≡ drop 24 buffer = rest-is answer_unless_refused 24 (omega arith) ∙ past in
      let left : length answer_unless_refused - 24 ≡ length (drop 24 buffer) = simp length-drop (omega arith) in
      let none : drop (length answer_unless_refused - 24) (drop 24 answer_unless_refused) ≡ [] = rw (left, past) (drop-length (drop 24 buffer)) in
      rw (front, none, append-nil) (played-on count ring' memory' rest' (rw (← part, ← e) P))

-- the answers fit
pub count_small : (cs : List Call) (s : State) (answer_unless_refused : List ℕ) (count : ℕ) (ring' memory' rest' : List ℕ) → 24 ≤ length answer_unless_refused →
    CallsMatch cs s (take (length answer_unless_refused - 24) (drop 24 answer_unless_refused)) count ring' memory' rest' → length rest' ≡ length (take (length answer_unless_refused - 24) (drop 24 answer_unless_refused)) → 24 + count ≤ length answer_unless_refused
count_small cs s answer_unless_refused count ring' memory' rest' room P kept =
    let part = rest-is answer_unless_refused 24 room in
    let said : List ℕ = answer_bytes cs (answers_of cs s) in
    let after : List ℕ = drop count (take (length answer_unless_refused - 24) (drop 24 answer_unless_refused)) in
    let size : length rest' ≡ count + length after = ap length P.bytes ∙ length-append said after ∙ rw P.returned in
    let lent : length rest' ≡ length answer_unless_refused - 24 = kept ∙ rw (part, length-drop) in
    omega arith
