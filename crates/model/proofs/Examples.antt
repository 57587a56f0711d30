-- Lists of calls, computed: every refusal with its number, and which comes first where two conditions hold at once. No theorem speaks of that
-- order, so it is held fast here. The way to draw is a small one that reads common and window and draws in the window.
use mathlib.Core.Path.{◌≡◌, refl}
use mathlib.Core.List.{List, [], ◌∷◌, ◌++◌}
use mathlib.Core.Bool.{Bool, false, cond}
use mathlib.Core.Logic.{inl, inr}
use Prim.Native.Nat.{ℕ, zero, suc, ◌+◌, ◌%◌}
use native.Mathlib.Omega.{arith}
use lib.ListN.{take, get_or, set, length-set, replicate}
use lib.Dec.{ltb}
use borrow.Author.Tests.{ne_eqb}
use borrow.Rule.Slice.PartMut.{mid_of, put_mid}
use Rattle.reset.specs.declared.ResetRule.TheVariants.{SrcOver}
use Rattle.model.specs.Windows.{window, In, byte, contains_any, overlap_any}
use Rattle.model.specs.Calls.{Setup, Call, opens, submit, run, pending, begin, piece, cancel, close, CompletionStatus, opened, accepted, completed, ready, missing, done, refused}
use Rattle.model.specs.BatchSemantics.{BatchSemantics, Confined}
use Rattle.model.specs.State.{Batch, batch, Model, taken, idle, initial_model, lowest_free_id, windows_in, taken_slots, total_bytes, count_of}
use Rattle.model.specs.Refusals.{free_bytes, refusal_table, first_holding}
use Rattle.model.specs.Model.{refuse_or, effect, step, answers, memories, after, closed, model_after_all}
use Rattle.model.specs.Tenancy.{batches_of, entered}
use Rattle.model.specs.Order.{Event, opening, closing, job, jobs, seen_by, Reordered, changes, submissions, AllRun, SameOutcome, Exchanged, ByHand}
use Rattle.model.specs.Noninterference.{nil, cons, identical, same-length-submit, same-length-piece, LowEquivalent}
use Rattle.model.specs.Machine.{model_machine, Noninterference}
use Rattle.model.proofs.Locality.{local_if, local_window}
use Rattle.model.proofs.Theorems.{claims}

-- ---- a way to draw: a batch whose first byte is 0 is faulty; another adds that byte and common's first to the window's first

abbrev faultless : List ℕ → Bool
faultless bytes = ltb 0 (get_or bytes 0 0)

abbrev good : CompletionStatus
good = record { status = 0x00010001; fault = 0; offset = 0 }

abbrev bad : CompletionStatus
bad = record { status = 0x00000002; fault = 23; offset = 4 }

abbrev sum : List ℕ → List ℕ → List ℕ → List ℕ
sum bytes common window = set window 0 ((get_or bytes 0 0 + get_or common 0 0 + get_or window 0 0) % 256)

abbrev toy : BatchSemantics
toy = record {
  verdict = λ w common bytes. cond (faultless bytes) good bad;
  draw = λ w common bytes m. cond (faultless bytes) (put_mid w.start w.length m (sum bytes (take common m) (mid_of w.start w.length m))) m;
}

-- so the claims' premise can be met
toy-confined : Confined toy
toy-confined w common bytes =
    local_if w common (faultless bytes) (λ m. put_mid w.start w.length m (sum bytes (take common m) (mid_of w.start w.length m)))
    (λ e. local_window w common (sum bytes) (λ c x _ l. rw length-set l))

-- ---- 3 to 9

abbrev setup : Setup
setup = record { ring = 128; memory = 40; common = 8; reset = SrcOver }

-- common 100 0 .., then four windows of eight bytes that begin with 1, 2, 3, 4
abbrev eight : ℕ → List ℕ
eight x = x ∷ replicate 7 0

abbrev memory : List ℕ
memory = eight 100 ++ eight 1 ++ eight 2 ++ eight 3 ++ eight 4

abbrev openings : List Call
openings =
    run ∷ pending 0 ∷ submit 0 [] ∷
    opens (window 8 0) ∷ opens (window 36 5) ∷ opens (window 7 1) ∷ opens (window 8 8) ∷ opens (window 15 2) ∷
    opens (window 16 8) ∷ opens (window 24 8) ∷ opens (window 32 8) ∷ opens (window 8 0) ∷ []

-- 9 nothing ready; 5 before 6; 4 empty, past the end, in common, in a window; the last window ends with memory; 3 before 4
opened_so : answers toy setup 128 openings (initial_model memory) ≡
    refused 9 ∷ refused 5 ∷ refused 5 ∷
    refused 4 ∷ refused 4 ∷ refused 4 ∷ opened 0 ∷ refused 4 ∷
    opened 1 ∷ opened 2 ∷ opened 3 ∷ refused 3 ∷ []
unfolding answers refuse_or effect refusal_table first_holding overlap_any lowest_free_id windows_in total_bytes count_of
opened_so = refl

abbrev batches : List Call
batches =
    submit 4 (1 ∷ 2 ∷ 3 ∷ []) ∷ submit 0 [] ∷ submit 0 (1 ∷ 2 ∷ 3 ∷ []) ∷ submit 0 (replicate 132 7) ∷
    submit 0 (replicate 128 7) ∷ submit 1 (replicate 132 7) ∷ submit 1 (replicate 4 7) ∷ pending 0 ∷ run ∷ pending 0 ∷
    submit 0 (replicate 16 1) ∷ submit 1 (replicate 16 2) ∷ submit 2 (replicate 16 3) ∷ submit 3 (replicate 16 4) ∷
    submit 0 (replicate 16 5) ∷ submit 1 (replicate 16 0) ∷ submit 2 (replicate 16 7) ∷ submit 3 (replicate 16 8) ∷
    submit 4 (replicate 4 9) ∷ submit 1 (1 ∷ []) ∷ submit 1 (replicate 4 9) ∷ pending 1 ∷
    run ∷ submit 2 (replicate 20 9) ∷ submit 2 (replicate 16 9) ∷
    run ∷ run ∷ run ∷ run ∷ run ∷ run ∷ run ∷ run ∷ run ∷ pending 4 ∷ []

-- 5 before 6; 6 for 0, 3 and 132 bytes; one batch fills the ring; 6 before 8; 8; eight wait and fill the ring: 5 before 7, 6 before 7, 7 before 8;
-- 8 with a slot free, and the same bytes that are left fit; a faulty batch; 9 at the end; 5 for pending
submitted_so : answers toy setup 128 batches (model_after_all toy setup 128 openings memory) ≡
    refused 5 ∷ refused 6 ∷ refused 6 ∷ refused 6 ∷
    accepted 0 ∷ refused 6 ∷ refused 8 ∷ ready 1 ∷ completed 0 0 good ∷ ready 0 ∷
    accepted 1 ∷ accepted 2 ∷ accepted 3 ∷ accepted 4 ∷
    accepted 5 ∷ accepted 6 ∷ accepted 7 ∷ accepted 8 ∷
    refused 5 ∷ refused 6 ∷ refused 7 ∷ ready 2 ∷
    completed 0 1 good ∷ refused 8 ∷ accepted 9 ∷
    completed 1 2 good ∷ completed 2 3 good ∷ completed 3 4 good ∷ completed 0 5 good ∷ completed 1 6 bad ∷ completed 2 7 good ∷ completed 3 8 good ∷ completed 2 9 good ∷ refused 9 ∷ refused 5 ∷ []
unfolding answers after refuse_or effect refusal_table first_holding overlap_any lowest_free_id windows_in total_bytes count_of
submitted_so = refl

drawn_so : (model_after_all toy setup 128 (openings ++ batches) memory).memory ≡ eight 100 ++ eight 58 ++ eight 104 ++ eight 66 ++ eight 216
unfolding after refuse_or effect refusal_table first_holding overlap_any lowest_free_id windows_in total_bytes count_of
drawn_so = refl

-- ---- 10: a lent ring or memory of another length, before all else

abbrev few : List Call
few =
    submit 0 (1 ∷ []) ∷ run ∷ begin 0 4 ∷ piece 0 [] ∷ cancel 0 ∷ close 0 ∷
    opens (window 8 8) ∷ submit 0 (replicate 4 7) ∷ run ∷ pending 0 ∷ pending 1 ∷
    begin 0 4 ∷ piece 0 [] ∷ cancel 0 ∷ close 0 ∷ []

ring_so : answers toy setup 127 few (initial_model memory) ≡
    refused 10 ∷ refused 10 ∷ refused 10 ∷ refused 10 ∷ refused 5 ∷ refused 5 ∷
    opened 0 ∷ refused 10 ∷ refused 10 ∷ ready 0 ∷ refused 5 ∷
    refused 10 ∷ refused 10 ∷ refused 14 ∷ done ∷ []
unfolding answers refuse_or effect refusal_table first_holding overlap_any lowest_free_id windows_in total_bytes count_of
ring_so = refl

memory_so : answers toy setup 128 few (initial_model (memory ++ (0 ∷ []))) ≡
    refused 5 ∷ refused 10 ∷ refused 5 ∷ refused 5 ∷ refused 5 ∷ refused 10 ∷
    opened 0 ∷ accepted 0 ∷ refused 10 ∷ ready 1 ∷ refused 5 ∷
    done ∷ missing 4 ∷ done ∷ refused 10 ∷ []
unfolding answers refuse_or effect refusal_table first_holding overlap_any lowest_free_id windows_in total_bytes count_of
memory_so = refl

-- ---- tickets go on from 4,294,967,295 to 0

abbrev late : Model
late = record { places = taken (window 8 8) ∷ []; waiting = []; staged = idle; accepted = 4294967295; memory = memory }

wraps_so : answers toy setup 128 (submit 0 (replicate 4 7) ∷ submit 0 (replicate 4 8) ∷ run ∷ run ∷ []) late ≡
    accepted 4294967295 ∷ accepted 0 ∷ completed 0 4294967295 good ∷ completed 0 0 good ∷ []
unfolding answers refuse_or effect refusal_table first_holding overlap_any lowest_free_id windows_in total_bytes count_of
wraps_so = refl

-- ---- 13, 14 and 18: a batch handed over by pieces

abbrev staged : List Call
staged =
    opens (window 8 8) ∷ opens (window 16 8) ∷
    begin 4 0 ∷ begin 0 0 ∷ begin 0 6 ∷ begin 0 132 ∷ piece 0 [] ∷ piece 4 [] ∷ cancel 0 ∷ cancel 4 ∷
    begin 0 8 ∷ begin 1 8 ∷ begin 1 3 ∷ begin 4 8 ∷ submit 1 (replicate 4 7) ∷ submit 0 [] ∷ submit 4 [] ∷
    piece 1 [] ∷ cancel 1 ∷ piece 0 [] ∷ piece 0 (replicate 9 1) ∷ piece 0 (5 ∷ 6 ∷ 7 ∷ []) ∷
    run ∷ pending 0 ∷ close 0 ∷ close 1 ∷ close 1 ∷
    piece 0 (replicate 5 8) ∷ piece 0 [] ∷ pending 0 ∷ close 0 ∷ run ∷ close 0 ∷ pending 0 ∷ []

-- 5 before 6; 6 for 0, 6 and 132 bytes; 14 with none open, 5 before it; one is open: 13 for every client, before 6, and 5 before 13; 14 for another
-- client; an empty piece; 14 for a piece that is too long; 9 and no batch ready till the last piece; 18 for its client alone; 5 when closed; the
-- last piece, and none open then; 18 while it waits
staged_so : answers toy setup 128 staged (initial_model memory) ≡
    opened 0 ∷ opened 1 ∷
    refused 5 ∷ refused 6 ∷ refused 6 ∷ refused 6 ∷ refused 14 ∷ refused 5 ∷ refused 14 ∷ refused 5 ∷
    done ∷ refused 13 ∷ refused 13 ∷ refused 5 ∷ refused 13 ∷ refused 13 ∷ refused 5 ∷
    refused 14 ∷ refused 14 ∷ missing 8 ∷ refused 14 ∷ missing 5 ∷
    refused 9 ∷ ready 0 ∷ refused 18 ∷ done ∷ refused 5 ∷
    accepted 0 ∷ refused 14 ∷ ready 1 ∷ refused 18 ∷ completed 0 0 good ∷ done ∷ refused 5 ∷ []
unfolding answers refuse_or effect refusal_table first_holding overlap_any lowest_free_id windows_in total_bytes count_of
staged_so = refl

-- while it is open it holds a slot and its whole length, beside what waits
abbrev holding : Model
holding = model_after_all toy setup 128 (opens (window 8 8) ∷ submit 0 (replicate 4 7) ∷ begin 0 8 ∷ piece 0 (5 ∷ []) ∷ []) memory

held_so : (taken_slots holding ≡ 2) × (free_bytes setup holding ≡ 116)
unfolding after refuse_or effect refusal_table first_holding overlap_any lowest_free_id windows_in total_bytes count_of
held_so = (refl, refl)

-- cancelling frees what was held: the whole ring is there again
cancelled_so : answers toy setup 128 (opens (window 8 8) ∷ begin 0 128 ∷ piece 0 (1 ∷ []) ∷ cancel 0 ∷ submit 0 (replicate 128 7) ∷ begin 0 4 ∷ run ∷ []) (initial_model memory) ≡
    opened 0 ∷ done ∷ missing 127 ∷ done ∷ accepted 0 ∷ refused 8 ∷ completed 0 0 good ∷ []
unfolding answers refuse_or effect refusal_table first_holding overlap_any lowest_free_id windows_in total_bytes count_of
cancelled_so = refl

-- ---- clients come and go

-- client 0 draws in its first byte, 8, and is closed; the next one takes its id and half of its bytes, and some that nobody had
abbrev earlier : List Call
earlier = opens (window 8 8) ∷ opens (window 32 8) ∷ submit 0 (replicate 4 7) ∷ run ∷ close 0 ∷ []

abbrev later : List Call
later = submit 0 (replicate 4 3) ∷ begin 0 4 ∷ piece 0 (9 ∷ 0 ∷ []) ∷ run ∷ piece 0 (0 ∷ 0 ∷ []) ∷ opens (window 24 8) ∷ run ∷ []

tenancies_so : answers toy setup 128 (earlier ++ opens (window 12 10) ∷ later) (initial_model memory) ≡
    opened 0 ∷ opened 1 ∷ accepted 0 ∷ completed 0 0 good ∷ done ∷
    opened 0 ∷ accepted 1 ∷ done ∷ missing 2 ∷ completed 0 1 good ∷ accepted 2 ∷ opened 2 ∷ completed 0 2 good ∷ []
unfolding answers refuse_or effect refusal_table first_holding overlap_any lowest_free_id windows_in total_bytes count_of
tenancies_so = refl

-- its window begins with what it drew on a zero: 3 and 100, then 9 and 100; before it zeros, and from byte 16 on the starting bytes
tenancies_drawn : (model_after_all toy setup 128 (earlier ++ opens (window 12 10) ∷ later) memory).memory ≡
    eight 100 ++ replicate 4 0 ++ (212 ∷ replicate 3 0) ++ eight 2 ++ eight 3 ++ eight 4
unfolding after refuse_or effect refusal_table first_holding overlap_any lowest_free_id windows_in total_bytes count_of
tenancies_drawn = refl

-- ---- two runs: other batches and pieces of the second tenancy's, a refused one too, and another byte 16, which no earlier one owned

abbrev later' : List Call
later' = submit 0 (replicate 4 0) ∷ begin 0 4 ∷ piece 0 (1 ∷ 2 ∷ []) ∷ run ∷ piece 0 (3 ∷ 4 ∷ []) ∷ opens (window 24 8) ∷ run ∷ []

abbrev memory' : List ℕ
memory' = eight 100 ++ eight 1 ++ eight 50 ++ eight 3 ++ eight 4

other-bytes : (i : ℕ) → ¬ (In (window 12 10) i × (contains_any (closed toy setup 128 earlier (initial_model memory)) i ≡ false)) → byte memory i ≡ byte memory' i
unfolding closed contains_any refuse_or effect refusal_table first_holding overlap_any lowest_free_id windows_in total_bytes count_of
other-bytes zero n = refl
other-bytes (suc zero) n = refl
other-bytes (suc (suc zero)) n = refl
other-bytes (suc (suc (suc zero))) n = refl
other-bytes (suc (suc (suc (suc zero)))) n = refl
other-bytes (suc (suc (suc (suc (suc zero))))) n = refl
other-bytes (suc (suc (suc (suc (suc (suc zero)))))) n = refl
other-bytes (suc (suc (suc (suc (suc (suc (suc zero))))))) n = refl
other-bytes (suc (suc (suc (suc (suc (suc (suc (suc zero)))))))) n = refl
other-bytes (suc (suc (suc (suc (suc (suc (suc (suc (suc zero))))))))) n = refl
other-bytes (suc (suc (suc (suc (suc (suc (suc (suc (suc (suc zero)))))))))) n = refl
other-bytes (suc (suc (suc (suc (suc (suc (suc (suc (suc (suc (suc zero))))))))))) n = refl
other-bytes (suc (suc (suc (suc (suc (suc (suc (suc (suc (suc (suc (suc zero)))))))))))) n = refl
other-bytes (suc (suc (suc (suc (suc (suc (suc (suc (suc (suc (suc (suc (suc zero))))))))))))) n = refl
other-bytes (suc (suc (suc (suc (suc (suc (suc (suc (suc (suc (suc (suc (suc (suc zero)))))))))))))) n = refl
other-bytes (suc (suc (suc (suc (suc (suc (suc (suc (suc (suc (suc (suc (suc (suc (suc zero))))))))))))))) n = refl
other-bytes (suc (suc (suc (suc (suc (suc (suc (suc (suc (suc (suc (suc (suc (suc (suc (suc zero)))))))))))))))) n = absurd (n ((omega arith, omega arith), refl))
other-bytes (suc (suc (suc (suc (suc (suc (suc (suc (suc (suc (suc (suc (suc (suc (suc (suc (suc i))))))))))))))))) n = refl

twins : LowEquivalent toy setup 128 0 earlier (window 12 10) later later' memory memory'
unfolding after refuse_or effect refusal_table first_holding overlap_any lowest_free_id windows_in total_bytes count_of
twins = record {
  tenancy = record { admitted = refl; lasts = (refl, (refl, (refl, (refl, (refl, (refl, (refl, refl))))))) };
  calls =
      cons (same-length-submit (replicate 4 3) (replicate 4 0) refl) (cons (identical _) (cons (same-length-piece (9 ∷ 0 ∷ []) (1 ∷ 2 ∷ []) refl) (cons (identical _) (cons (same-length-piece (0 ∷ 0 ∷ []) (3 ∷ 4 ∷ []) refl) (cons (identical _) (cons (identical _) nil))))));
  size = refl;
  bytes = other-bytes;
}

unmoved_so : Noninterference (model_machine toy setup 128) 0 earlier (window 12 10) later later' (initial_model memory) (initial_model memory')
unmoved_so = (claims toy setup 128).noninterference toy-confined 0 earlier (window 12 10) later later' memory memory' twins

-- the tenancy's closing is accepted, so that from there on every answer and all of memory agree, though the two drew different bytes
abbrev stay : List Call → List ℕ → Model
stay during start = after toy setup 128 during (entered toy setup 128 (initial_model start) earlier (window 12 10))

closes_so : (step toy setup 128 (close 0) (stay later memory)).answer ≡ done
unfolding after refuse_or effect refusal_table first_holding overlap_any lowest_free_id windows_in total_bytes count_of
closes_so = refl

abbrev next : List Call
next = opens (window 12 10) ∷ submit 0 (replicate 4 3) ∷ run ∷ []

closed_so : (answers toy setup 128 (close 0 ∷ next) (stay later memory) ≡ answers toy setup 128 (close 0 ∷ next) (stay later' memory'))
    × (memories toy setup 128 (close 0 ∷ next) (stay later memory) ≡ memories toy setup 128 (close 0 ∷ next) (stay later' memory'))
closed_so = unmoved_so.from_closing next closes_so

differ_so : (byte (stay later memory).memory 12 ≡ 212) × (byte (stay later' memory').memory 12 ≡ 101)
unfolding after refuse_or effect refusal_table first_holding overlap_any lowest_free_id windows_in total_bytes count_of
differ_so = (refl, refl)

-- ---- order: two clients hand in and are run in two orders, by pieces in one; then the second one goes and a third comes

abbrev stays : List Call
stays = close 1 ∷ opens (window 20 8) ∷ submit 1 (replicate 4 6) ∷ run ∷ []

abbrev early : List Call
early = opens (window 8 8) ∷ opens (window 16 8) ∷ submit 0 (replicate 4 7) ∷ submit 1 (5 ∷ 6 ∷ 7 ∷ 8 ∷ []) ∷ submit 0 (replicate 4 0) ∷ run ∷ pending 0 ∷ run ∷ run ∷ stays

abbrev mixed : List Call
mixed =
    opens (window 8 8) ∷ opens (window 16 8) ∷ begin 1 4 ∷ piece 1 (5 ∷ 6 ∷ []) ∷ submit 0 (replicate 4 7) ∷ piece 1 (7 ∷ 8 ∷ []) ∷ run ∷
    submit 0 (replicate 4 7) ∷ run ∷ submit 0 (replicate 4 0) ∷ run ∷ stays

-- tickets differ, and a submit that is refused stands in one of them only
early_so : answers toy setup 128 early (initial_model memory) ≡
    opened 0 ∷ opened 1 ∷ accepted 0 ∷ accepted 1 ∷ accepted 2 ∷ completed 0 0 good ∷ ready 1 ∷ completed 1 1 good ∷ completed 0 2 bad ∷
    done ∷ opened 1 ∷ accepted 3 ∷ completed 1 3 good ∷ []
unfolding answers refuse_or effect refusal_table first_holding overlap_any lowest_free_id windows_in total_bytes count_of
early_so = refl

mixed_so : answers toy setup 128 mixed (initial_model memory) ≡
    opened 0 ∷ opened 1 ∷ done ∷ missing 2 ∷ refused 13 ∷ accepted 0 ∷ completed 1 0 good ∷ accepted 1 ∷ completed 0 1 good ∷ accepted 2 ∷ completed 0 2 bad ∷
    done ∷ opened 1 ∷ accepted 3 ∷ completed 1 3 good ∷ []
unfolding answers refuse_or effect refusal_table first_holding overlap_any lowest_free_id windows_in total_bytes count_of
mixed_so = refl

early-run : AllRun toy setup 128 early (initial_model memory)
unfolding changes refuse_or effect refusal_table first_holding overlap_any lowest_free_id windows_in total_bytes count_of
early-run = (inr refl, (inr refl, (inl refl, (inl refl, (inl refl, (inl refl, (inl refl, (inl refl, (inl refl, (inr refl, (inr refl, (inl refl, (inl refl, refl)))))))))))))

mixed-run : AllRun toy setup 128 mixed (initial_model memory)
unfolding changes refuse_or effect refusal_table first_holding overlap_any lowest_free_id windows_in total_bytes count_of
mixed-run = (inr refl, (inr refl, (inl refl, (inl refl, (inl refl, (inl refl, (inl refl, (inl refl, (inl refl, (inl refl, (inl refl, (inr refl, (inr refl, (inl refl, (inl refl, refl)))))))))))))))

-- batches as they are accepted, between openings and closings
abbrev order : List Event → List Event
order batches = opening (window 8 8) ∷ opening (window 16 8) ∷ batches ++ (closing 1 ∷ opening (window 20 8) ∷ job 1 (replicate 4 6) ∷ [])

abbrev in_order : List Event
in_order = order (job 0 (replicate 4 7) ∷ job 1 (5 ∷ 6 ∷ 7 ∷ 8 ∷ []) ∷ job 0 (replicate 4 0) ∷ [])

abbrev in_another : List Event
in_another = order (job 1 (5 ∷ 6 ∷ 7 ∷ 8 ∷ []) ∷ job 0 (replicate 4 7) ∷ job 0 (replicate 4 0) ∷ [])

early-order : submissions toy setup 128 early (initial_model memory) ≡ in_order
unfolding submissions changes jobs refuse_or effect refusal_table first_holding overlap_any lowest_free_id windows_in total_bytes count_of
early-order = refl

mixed-order : submissions toy setup 128 mixed (initial_model memory) ≡ in_another
unfolding submissions changes jobs refuse_or effect refusal_table first_holding overlap_any lowest_free_id windows_in total_bytes count_of
mixed-order = refl

kept_so : Reordered in_order in_another
unfolding seen_by
kept_so zero = refl
kept_so (suc zero) = refl
kept_so (suc (suc client)) = rw (ne_eqb 0 (suc (suc client)) (λ e. omega arith), ne_eqb 1 (suc (suc client)) (λ e. omega arith))

same_so : SameOutcome toy setup 128 early mixed (initial_model memory) (initial_model memory)
same_so = (claims toy setup 128).any_submissions toy-confined early mixed memory early-run mixed-run (rw (early-order, mixed-order) kept_so)

early-drawn : (model_after_all toy setup 128 early memory).memory ≡ eight 100 ++ eight 108 ++ replicate 4 0 ++ (106 ∷ replicate 3 0) ++ eight 3 ++ eight 4
unfolding after refuse_or effect refusal_table first_holding overlap_any lowest_free_id windows_in total_bytes count_of
early-drawn = refl

-- no batch moves past a closing: with the same openings and closings, and the same batch, memory would be another
moved_so : ((model_after_all toy setup 128 (opens (window 8 8) ∷ submit 0 (replicate 4 7) ∷ run ∷ close 0 ∷ opens (window 8 8) ∷ []) memory).memory ≡ eight 100 ++ eight 0 ++ eight 2 ++ eight 3 ++ eight 4)
    × ((model_after_all toy setup 128 (opens (window 8 8) ∷ close 0 ∷ opens (window 8 8) ∷ submit 0 (replicate 4 7) ∷ run ∷ []) memory).memory ≡ eight 100 ++ eight 107 ++ eight 2 ++ eight 3 ++ eight 4)
unfolding after refuse_or effect refusal_table first_holding overlap_any lowest_free_id windows_in total_bytes count_of
moved_so = (refl, refl)

-- the queue by hand: the first two change places, then the first goes last but for its client's other one
abbrev queued : List Call
queued = opens (window 8 8) ∷ opens (window 16 8) ∷ submit 0 (replicate 4 7) ∷ submit 1 (replicate 4 5) ∷ submit 1 (replicate 4 6) ∷ submit 0 (replicate 4 0) ∷ []

abbrev ahead : Batch
ahead = batch 0 0 (replicate 4 7)

abbrev behind : Batch
behind = batch 1 1 (replicate 4 5)

abbrev others : List Batch
others = batch 1 2 (replicate 4 6) ∷ batch 0 3 (replicate 4 0) ∷ []

exchanged_so : Exchanged toy setup 128 ahead behind good good others (model_after_all toy setup 128 queued memory)
unfolding answers after refuse_or effect refusal_table first_holding overlap_any lowest_free_id windows_in total_bytes count_of
exchanged_so = (claims toy setup 128).exchange toy-confined queued memory ahead behind good good others refl (λ e. omega arith) refl

abbrev by_hand : List Batch
by_hand = behind ∷ batch 1 2 (replicate 4 6) ∷ ahead ∷ batch 0 3 (replicate 4 0) ∷ []

own-kept : (client : ℕ) → batches_of client by_hand ≡ batches_of client (model_after_all toy setup 128 queued memory).waiting
unfolding batches_of after refuse_or effect refusal_table first_holding overlap_any lowest_free_id windows_in total_bytes count_of
own-kept zero = refl
own-kept (suc zero) = refl
own-kept (suc (suc client)) = rw (ne_eqb 0 (suc (suc client)) (λ e. omega arith), ne_eqb 1 (suc (suc client)) (λ e. omega arith))

by_hand_so : ByHand toy setup 128 (model_after_all toy setup 128 queued memory) by_hand
by_hand_so = (claims toy setup 128).by_hand toy-confined queued memory by_hand own-kept

-- ---- and each premise is needed. Another way: the window's first byte is the last batch's first

abbrev stamp : BatchSemantics
stamp = record {
  verdict = λ w common bytes. good;
  draw = λ w common bytes m. put_mid w.start w.length m (set (mid_of w.start w.length m) 0 (get_or bytes 0 0));
}

stamp-confined : Confined stamp
stamp-confined w common bytes = local_window w common (λ c x. set x 0 (get_or bytes 0 0)) (λ c x _ l. rw length-set l)

-- one client's two batches, and some runs
abbrev twice : (first second : ℕ) → (runs : List Call) → List Call
twice first second runs = opens (window 8 8) ∷ submit 0 (replicate 4 first) ∷ submit 0 (replicate 4 second) ∷ runs

abbrev stamped : ℕ → List ℕ
stamped x = eight 100 ++ eight x ++ eight 2 ++ eight 3 ++ eight 4

-- a client's own batches change places, or are as many and as long but of other bytes: another memory
own_so : ((model_after_all stamp setup 128 (twice 7 9 (run ∷ run ∷ [])) memory).memory ≡ stamped 9) × ((model_after_all stamp setup 128 (twice 9 7 (run ∷ run ∷ [])) memory).memory ≡ stamped 7)
unfolding after refuse_or effect refusal_table first_holding overlap_any lowest_free_id windows_in total_bytes count_of
own_so = (refl, refl)

-- the same batches, but one is left waiting: another memory
left_so : (model_after_all stamp setup 128 (twice 7 9 (run ∷ [])) memory).memory ≡ stamped 7
unfolding after refuse_or effect refusal_table first_holding overlap_any lowest_free_id windows_in total_bytes count_of
left_so = refl
