-- The twelve, computed.
use mathlib.Core.Path.{refl}
use Rattle.ring.specs.Segment.{segment}
use Rattle.pixel.specs.Colours.{widened, narrowed, unpacked, packed}
use Rattle.division.specs.Division.{div255}
use Rattle.pixel.specs.Blending.{blended_channel, blended}
use Rattle.transform.specs.Transform.{source_pixel}
use Rattle.surface.specs.Surface.{span}
use Rattle.register.specs.Table.{register_kind_of}
use Rattle.register.specs.Bank.{surface_after_write, bank_after_write, write_register}
use Rattle.register.specs.Task.{surface_of, transform_of, alpha_of, source_of_bank as sourceIn, destination_of, blending_of, task_of}
use Rattle.task_check.specs.Rules.{bad_sides, bad_stride, bad_source, bad_output, bad_destination, bad_surface, size_mismatch, out_of_bounds, aliases, output_overlaps, check_task}
use Rattle.batch.specs.Batch.{decode_from}
use Rattle.claims.specs.WorkedExamples.{actual, expected, WorkedExamples}

pub twelve : WorkedExamples
unfolding actual expected segment span widened narrowed unpacked packed div255 blended_channel blended source_pixel decode_from write_register register_kind_of bank_after_write surface_after_write task_of sourceIn destination_of blending_of surface_of transform_of alpha_of check_task bad_surface bad_source bad_output bad_destination bad_sides bad_stride size_mismatch out_of_bounds aliases output_overlaps
twelve p q = refl
