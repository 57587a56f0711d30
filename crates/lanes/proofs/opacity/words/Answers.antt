use Rattle.lanes.proofs.opacity.Sums.{words-zero}
use Rattle.lanes.proofs.opacity.words.Goals as goal

pub returns : goal.returns
returns c =
    λ z. words-zero c.args.s.now c.args.o _ _ _ _ c.get4.ensures.0 c.get4-2.ensures.0 c.get4-3.ensures.0 c.get4-4.ensures.0 z
