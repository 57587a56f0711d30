use Rattle.std.proofs.Common.{sym}
use Rattle.ring.proofs.Wrapped.{wrapped_in, wrapped_over}
use Rattle.engine_record.proofs.wrap_offset.Goals as goal

pub returns-then-offset-ring : goal.returns-then-offset-ring
returns-then-offset-ring c = sym (wrapped_in _ _ c.if-offset-ring.true)

pub returns-else-offset-ring : goal.returns-else-offset-ring
returns-else-offset-ring c = sym (wrapped_over _ _ c.if-offset-ring.false)
