use Rattle.transform.specs.Transform.{source_pixel}
use Rattle.transform.proofs.Inside.{unrotated-within}
use Rattle.transform.proofs.Transform.source_of.Goals as goal

pub origin-requires-2 : goal.origin-requires-2
origin-requires-2 c =
    let a = c.args in
    rw c.origin.ensures (unrotated-within a.self.rotation a.size a.at c.requires)

pub returns : goal.returns
unfolding source_pixel
returns c = simp (c.origin-2.ensures, c.origin.ensures)
