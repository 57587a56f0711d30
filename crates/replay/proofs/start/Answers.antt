use mathlib.Core.Path.{◌≡◌}
use native.Mathlib.Omega.{arith}
use Rattle.replay.proofs.Opening.{none_opened, one_more_opened, all_opened}
use Rattle.replay.proofs.start.Goals as goal

pub loop-client-init : goal.loop-client-init
loop-client-init c = cc (none_opened c.args.edition)

pub loop-client-preserved : goal.loop-client-preserved
loop-client-preserved c = cc (one_more_opened c.args.edition c.loop-client.client)

pub returns : goal.returns
returns c =
    let done : c.loop-client.client ≡ 4 = omega arith in
    cc (all_opened c.args.edition, done)
