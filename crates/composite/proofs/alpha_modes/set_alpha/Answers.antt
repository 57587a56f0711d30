use mathlib.Core.Path.{refl, ◌∙◌}
use native.Mathlib.Omega.{arith}
use borrow.Author.Rules.{rules}
use Rattle.composite.proofs.alpha_modes.Alphas.{alpha_put}
use Rattle.composite.proofs.alpha_modes.set_alpha.Goals as goal

pub returns : goal.returns
returns c =
    c.write_le32.ensures
    ∙ alpha_put c.args.row.now c.args.o c.read_le32-w.result c.args.a _ c.requires (λ j. omega (arith, c.slice_known-1.given j)) c.read_le32-w.ensures (search rules) refl
