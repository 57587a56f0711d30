use Rattle.std.proofs.Common.{◌-◌, length, refl, arith, rules}
use Rattle.surface.proofs.Parts.{length_mid}
use Rattle.replay_pieces.proofs.Reaching.{feeding_none, feeding_more, piece_failed}
use Rattle.replay_pieces.proofs.feed_piece.Goals as goal

pub loop-used-init : goal.loop-used-init
loop-used-init g c = (search rules, search rules, search rules, search rules, search rules, λ engine seen text S e. feeding_none engine seen text _ _ _ _ _ _ _ S e)

pub overflow_add-used : goal.overflow_add-used
overflow_add-used g c =
    let l = c.loop-used in
    let piece = c.args.piece.now in
    omega (arith, c.feed_lines-fed.ensures.within, length_mid l.used (length piece - l.used) piece (omega arith), c.well_formed.1.1.1.1.0.0)

pub loop-used-preserved : goal.loop-used-preserved
loop-used-preserved g c =
    let l = c.loop-used in
    let f = c.feed_lines-fed in
    let piece = c.args.piece.now in
    let rest = length_mid l.used (length piece - l.used) piece (omega (arith, l.invariant.0)) in
    (omega (arith, f.ensures.within, rest, l.invariant.0), search rules, search rules, search rules, search rules, λ engine seen text S e. (feeding_more _ engine seen text piece _ l.used l.now l.sum _ _ _ (l.invariant.5 engine seen text S e) (length piece - l.used) _ f.result _ _ _ _ _ refl f.auto.out f.ensures c.show-printed.ensures))

pub returns-then-fed-eq0 : goal.returns-then-fed-eq0
returns-then-fed-eq0 g c =
    let l = c.loop-used in
    let f = c.feed_lines-fed in
    let piece = c.args.piece.now in
    λ engine seen text S e. piece_failed _ _ engine seen text piece _ _ _ _ _ _ _ (feeding_more _ engine seen text piece _ l.used l.now l.sum _ _ _ (l.invariant.5 engine seen text S e) (length piece - l.used) _ f.result _ _ _ _ _ refl f.auto.out f.ensures c.show-printed.ensures)

pub returns : goal.returns
returns g c =
    let l = c.loop-used in
    λ engine seen text S e.
    let G = l.invariant.5 engine seen text S e in
    record { used = l.used; more = G.more; of = G.of; stands = G.stands; counts = G.counts; whole = λ ok. omega (arith, l.invariant.0, c.loop-used-test.false) }
