use mathlib.Core.Path.{refl, ap, ◌∙◌}
use Prim.Native.Nat.{ℕ, ◌+◌, ◌*◌}
use native.Mathlib.Omega.{arith}
use lib.ListN.{set}
use Rattle.division.specs.Division.{div255}
use Rattle.composite.proofs.alpha_modes.Alphas.{top-is, alpha_put}
use Rattle.composite.proofs.alpha_modes.mix_alpha.Goals as goal

pub returns : goal.returns
returns c =
    let row = c.args.row.now in
    let o = c.args.o in
    c.write_le32.ensures
    ∙ (alpha_put row o c.read_le32-w.result c.nearest.result _ c.requires (λ j. omega (arith, c.slice_known-1.given j)) c.read_le32-w.ensures c.nearest.ensures.1 refl
    ∙ ap (set row (o + 3))
    (c.nearest.ensures.0
    ∙ ap div255
    (c.prod.ensures.0
    ∙ ap (λ (t : ℕ). t * c.args.a) (top-is row o c.read_le32-w.result (λ j. omega (arith, c.slice_known-1.given j)) c.read_le32-w.ensures))))
