-- The examples of 01 and 02 that are batches: the worked words, and a fault at each place in a group. Client 0 of the replay program
-- has the window 16,384 to 28,671, after as much common.
use Prim.Native.Nat.{ℕ}
use mathlib.Core.Path.{◌≡◌, refl}
use mathlib.Core.List.{List, [], ◌∷◌, ◌++◌}
use Rattle.reset.specs.declared.ResetRule.TheVariants.{Unblended, SrcOver}
use Rattle.surface.specs.Surface.{span}
use Rattle.register.specs.Table.{register_kind_of}
use Rattle.register.specs.Bank.{reset_bank, surface_after_write, bank_after_write, write_register}
use Rattle.register.specs.Task.{surface_of, transform_of, alpha_of, source_of_bank, destination_of, blending_of, task_of}
use Rattle.task_check.specs.declared.fault.Fault.TheVariants.{ReservedBits, GroupLength, OpenTask, NotWritable, Forbidden, BadSurface, OutOfBounds}
use Rattle.task_check.specs.declared.task.Bounds.{Bounds}
use Rattle.task_check.specs.Rules.{bad_sides, bad_stride, bad_source, bad_output, bad_destination, bad_surface, size_mismatch, out_of_bounds, aliases, output_overlaps, check_task}
use Rattle.batch.specs.declared.verdict.Verdict.{Verdict}
use Rattle.batch.specs.Batch.{without_fault, with_fault, decode_from, decode_batch, verdict_of, status_word_of}

-- the replay program's bounds for client 0
abbrev pub bounds : Bounds
bounds = record { window = record { start = 16384; end = 28672 }; common_length = 16384 }

-- the twenty words, with an output address
abbrev pub words : ℕ → List ℕ
words address =
    0x00100014 ∷ 0x00000005 ∷ 0x00010002 ∷ 0x00000000 ∷ 0x80FF0000 ∷ 0x00000000
    ∷ 0x0050000C ∷ 0x00000000 ∷ 0x00000000 ∷ 0x00000000
    ∷ 0x00600004 ∷ 0x00000000
    ∷ 0x00900004 ∷ 0x00001300
    ∷ 0x0100000C ∷ 0x00000000 ∷ 0x00010002 ∷ 0x00000008
    ∷ 0x01100005 ∷ address ∷ []

abbrev pub verdict : List ℕ → Verdict
verdict ws = verdict_of (decode_batch bounds (reset_bank Unblended) ws)

-- the worked words are one task, and with address 64 the fault is 27 at 72
pub one : verdict (words 0x4000) ≡ without_fault 1
unfolding decode_from write_register register_kind_of bank_after_write surface_after_write task_of source_of_bank destination_of blending_of surface_of transform_of alpha_of check_task bad_surface bad_source bad_output bad_destination bad_sides bad_stride size_mismatch out_of_bounds aliases output_overlaps span
one = refl

pub outside : verdict (words 64) ≡ with_fault 0 OutOfBounds 72
unfolding decode_from write_register register_kind_of bank_after_write surface_after_write task_of source_of_bank destination_of blending_of surface_of transform_of alpha_of check_task bad_surface bad_source bad_output bad_destination bad_sides bad_stride size_mismatch out_of_bounds aliases output_overlaps span
outside = refl

-- the registers are kept from task to task: a second task writes its address alone
pub kept : verdict (words 0x4000 ++ 0x01100005 ∷ 0x5000 ∷ []) ≡ without_fault 2
unfolding decode_from write_register register_kind_of bank_after_write surface_after_write task_of source_of_bank destination_of blending_of surface_of transform_of alpha_of check_task bad_surface bad_source bad_output bad_destination bad_sides bad_stride size_mismatch out_of_bounds aliases output_overlaps span
kept = refl

-- 02, 5: "two good tasks, then fault 23, give 0x00020002"; 21 after two good tasks gives 0x00020100
pub stand : status_word_of (verdict (words 0x4000 ++ 0x01100005 ∷ 0x5000 ∷ 0x00240005 ∷ 0 ∷ [])) ≡ 0x00020002
unfolding decode_from write_register register_kind_of bank_after_write surface_after_write task_of source_of_bank destination_of blending_of surface_of transform_of alpha_of check_task bad_surface bad_source bad_output bad_destination bad_sides bad_stride size_mismatch out_of_bounds aliases output_overlaps span
stand = refl

pub stand_cut : status_word_of (verdict (words 0x4000 ++ 0x01100005 ∷ 0x5000 ∷ 0x00100014 ∷ [])) ≡ 0x00020100
unfolding decode_from write_register register_kind_of bank_after_write surface_after_write task_of source_of_bank destination_of blending_of surface_of transform_of alpha_of check_task bad_surface bad_source bad_output bad_destination bad_sides bad_stride size_mismatch out_of_bounds aliases output_overlaps span
stand_cut = refl

-- a header that is no header, one whose words are missing, one that leaves its task open
pub reserved : verdict (words 0x4000 ++ 0x00110004 ∷ 0 ∷ []) ≡ with_fault 1 ReservedBits 80
unfolding decode_from write_register register_kind_of bank_after_write surface_after_write task_of source_of_bank destination_of blending_of surface_of transform_of alpha_of check_task bad_surface bad_source bad_output bad_destination bad_sides bad_stride size_mismatch out_of_bounds aliases output_overlaps span
reserved = refl

pub cut : verdict (words 0x4000 ++ 0x00100014 ∷ []) ≡ with_fault 1 GroupLength 80
unfolding decode_from write_register register_kind_of bank_after_write surface_after_write task_of source_of_bank destination_of blending_of surface_of transform_of alpha_of check_task bad_surface bad_source bad_output bad_destination bad_sides bad_stride size_mismatch out_of_bounds aliases output_overlaps span
cut = refl

pub open_end : verdict (words 0x4000 ++ 0x00100004 ∷ 0 ∷ []) ≡ with_fault 1 OpenTask 80
unfolding decode_from write_register register_kind_of bank_after_write surface_after_write task_of source_of_bank destination_of blending_of surface_of transform_of alpha_of check_task bad_surface bad_source bad_output bad_destination bad_sides bad_stride size_mismatch out_of_bounds aliases output_overlaps span
open_end = refl

-- the second word of a group goes to 0x024, which is not writable; the first has a bit that is not allowed
pub unwritable : verdict (0x00200009 ∷ 0 ∷ 0 ∷ []) ≡ with_fault 0 NotWritable 8
unfolding decode_from write_register register_kind_of bank_after_write surface_after_write task_of source_of_bank destination_of blending_of surface_of transform_of alpha_of check_task bad_surface bad_source bad_output bad_destination bad_sides bad_stride size_mismatch out_of_bounds aliases output_overlaps span
unwritable = refl

pub forbidden : verdict (0x00140005 ∷ 0x80000000 ∷ []) ≡ with_fault 0 Forbidden 4
unfolding decode_from write_register register_kind_of bank_after_write surface_after_write task_of source_of_bank destination_of blending_of surface_of transform_of alpha_of check_task bad_surface bad_source bad_output bad_destination bad_sides bad_stride size_mismatch out_of_bounds aliases output_overlaps span
forbidden = refl

-- the worked words without 0x050, 0x060 and 0x090: a task under the old reset rule; under the new one it blends, and its destination is disabled
abbrev pub silent : List ℕ
silent =
    0x00100014 ∷ 0x00000005 ∷ 0x00010002 ∷ 0x00000000 ∷ 0x80FF0000 ∷ 0x00000000
    ∷ 0x0100000C ∷ 0x00000000 ∷ 0x00010002 ∷ 0x00000008
    ∷ 0x01100005 ∷ 0x4000 ∷ []

pub silent-unblended : verdict_of (decode_batch bounds (reset_bank Unblended) silent) ≡ without_fault 1
unfolding decode_from write_register register_kind_of bank_after_write surface_after_write task_of source_of_bank destination_of blending_of surface_of transform_of alpha_of check_task bad_surface bad_source bad_output bad_destination bad_sides bad_stride size_mismatch out_of_bounds aliases output_overlaps span
silent-unblended = refl

pub silent-blended : verdict_of (decode_batch bounds (reset_bank SrcOver) silent) ≡ with_fault 0 BadSurface 40
unfolding decode_from write_register register_kind_of bank_after_write surface_after_write task_of source_of_bank destination_of blending_of surface_of transform_of alpha_of check_task bad_surface bad_source bad_output bad_destination bad_sides bad_stride size_mismatch out_of_bounds aliases output_overlaps span
silent-blended = refl
