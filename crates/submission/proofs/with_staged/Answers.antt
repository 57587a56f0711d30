use mathlib.Core.Path.{refl}
use Rattle.queue.specs.Calls.{with_staged}
use Rattle.submission.proofs.with_staged.Goals as goal

pub returns : goal.returns
unfolding with_staged
returns c = refl
