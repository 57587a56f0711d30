use Rattle.plain.proofs.PixelByPixel.{in_all}
use borrow.Author.Rules.{rules}
use Rattle.walk.proofs.draw_task.Goals as goal

pub draw_task-requires : goal.draw_task-requires
draw_task-requires c = search (rules, in_all)
