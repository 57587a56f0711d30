use mathlib.Core.Path.{sym, ◌∙◌}
use Rattle.kinds.specs.declared.Finish.TheVariants.{InPlace}
use Rattle.raster.proofs.Parts.{of-finish}
use Rattle.buffered_rows.proofs.Planned.finish_at.Goals as goal

pub returns-in-Copied : goal.returns-in-Copied
returns-in-Copied c =
    rw c.in-Copied.is c.blit_at.ensures

pub mix_at-requires : goal.mix_at-requires
mix_at-requires c =
    let p = c.requires.1 in
    record {
      fits = record { inside = c.requires.0; room = p.source };
      format = (of-finish c.args.self.now.task InPlace (sym c.in-InPlace.is ∙ c.args.self.now.of_task)).1.to;
    }

pub returns-in-InPlace : goal.returns-in-InPlace
returns-in-InPlace c =
    rw c.in-InPlace.is c.mix_at.ensures

pub returns-in-Blended : goal.returns-in-Blended
returns-in-Blended c = rw c.in-Blended.is c.blit_at-in-Blended.ensures
