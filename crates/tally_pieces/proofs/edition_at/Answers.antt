use Rattle.tally.proofs.Adding.{edition-none, edition-second, edition-first}
use Rattle.tally_pieces.proofs.edition_at.Goals as goal

pub returns-then-input-eq0 : goal.returns-then-input-eq0
returns-then-input-eq0 c = edition-none c.args.input.now c.if-input-eq0.true

pub returns-then-input-eq2 : goal.returns-then-input-eq2
returns-then-input-eq2 c = edition-second c.args.input.now c.if-input-eq0.false c.if-input-eq2.true

pub returns : goal.returns
returns c = edition-first c.args.input.now c.if-input-eq0.false c.if-input-eq2.false
