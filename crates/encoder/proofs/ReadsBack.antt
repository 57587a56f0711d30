-- What the encoder writes reads back as the same task.
use mathlib.Core.Path.{ap, ◌∙◌}
use Rattle.register.specs.Bank.{reset_bank}
use Rattle.register.specs.declared.bank.Bank.{Bank}
use Rattle.task_check.specs.declared.task.Bounds.{Bounds}
use Rattle.batch.specs.Marks.{task_end_count}
use Rattle.encoder.specs.Forms.{first_form}
use Rattle.encoder.specs.RoundTrip.{expected_decoding}
use Rattle.encoder.specs.ReadsBack.{EncodeDecodeRoundTrip}
use Rattle.encoder.proofs.RoundTrip.{bytes-read-back, fine_from, all-bytes-back, one_mark-each}
use Rattle.encoder.proofs.Buffer.{round_trip}

pub reads_back : (bounds : Bounds) (bank : Bank) → EncodeDecodeRoundTrip bounds bank
unfolding expected_decoding
reads_back bounds bank = record {
  one_task = λ w buffer plain e. round_trip w buffer e plain bounds bank;
  first_in_batch = λ rule f buffer plain e. round_trip (first_form f) buffer e plain bounds (reset_bank rule);
  many_tasks = bytes-read-back bounds bank;
  in_order = fine_from bounds bank 0;
  one_task_end_each = λ ws ok plain. ap task_end_count (all-bytes-back ws ok plain) ∙ one_mark-each ws;
}
