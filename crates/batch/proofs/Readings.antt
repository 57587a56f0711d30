-- What holds of every reading holds after each way on: where it stops at word k, and where it goes on.
use Prim.Native.Nat.{ℕ, ◌+◌, ◌*◌}
use mathlib.Core.Path.{◌≡◌, refl}
use mathlib.Core.Bool.{Bool, true, false, cond}
use mathlib.Core.List.{List}
use Rattle.word.specs.Field.{field}
use Rattle.std.specs.Prelude.{Result, Ok, Err, ⊤}
use Rattle.register.specs.Task.{task_of}
use Rattle.register.specs.declared.bank.Bank.{Bank}
use Rattle.register.specs.declared.bank.WriteFault.{WriteFault}
use Rattle.task_check.specs.declared.fault.Fault.{Fault}
use Rattle.task_check.specs.declared.fault.Fault.TheVariants.{ReservedBits, GroupLength}
use Rattle.task_check.specs.declared.task.Bounds.{Bounds}
use Rattle.task_check.specs.Faults.{write_fault}
use Rattle.batch.specs.Batch.{DecodedBatch, faulty, stop_with, cons_task, DecoderState, reserved_bits, bad_group_length, decode_header, after_write, after_task_check, group_of, decode_from}

-- the reading after a header, by the position that it leads to, and after a written word, by the bank
abbrev pub on_from : Bounds → Bank → ℕ → List ℕ → DecoderState → DecodedBatch
on_from bounds b k ws position = decode_from bounds b (k + 1) position ws

abbrev pub on_with : Bounds → ℕ → DecoderState → List ℕ → Bank → DecodedBatch
on_with bounds k position ws next = decode_from bounds next (k + 1) position ws

module _ (P : DecodedBatch → Type 0) (b : Bank) (k : ℕ) (stops : (f : Fault) → P (stop_with b (faulty f (4 * k)))) where
  pub opened-all : (h follow : ℕ) (go : DecoderState → DecodedBatch) → (bad_group_length (field 15 2 h) follow ≡ false → P (go (group_of k h))) → P (decode_header b k h follow go)
  opened-all h follow go on = by (reserved_bits h) (bad_group_length (field 15 2 h) follow) refl
    where
      by : (r l : Bool) → bad_group_length (field 15 2 h) follow ≡ l
          → P (cond r (stop_with b (faulty ReservedBits (4 * k))) (cond l (stop_with b (faulty GroupLength (4 * k))) (go (group_of k h))))
      by true l e = stops ReservedBits
      by false true e = stops GroupLength
      by false false e = on e

  pub wrote-all : (w : Result Bank WriteFault) (go : Bank → DecodedBatch) → ((next : Bank) → P (go next)) → P (after_write b k w go)
  wrote-all (Ok next) go on = on next
  wrote-all (Err f) go on = stops (write_fault f)

  pub judged-all : (check : Result ⊤ Fault) (after : DecodedBatch) → (check ≡ Ok tt → P (cons_task (task_of b) after)) → P (after_task_check check b k after)
  judged-all (Ok tt) after on = on refl
  judged-all (Err f) after on = stops f
