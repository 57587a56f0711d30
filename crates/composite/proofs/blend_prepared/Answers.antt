use Rattle.composite.proofs.Colours.{constant_factors, is_global}
use mathlib.Core.Path.{◌≡◌, sym, ◌∙◌}
use mathlib.Core.Bool.{true}
use Rattle.composite.specs.Buffer.{has_constant_alpha}
use Rattle.composite.proofs.blend_prepared.Goals as goal

pub constant_alpha_row-requires : goal.constant_alpha_row-requires
constant_alpha_row-requires c =
    let mode = c.args.source.mode in
    let p = c.args.p in
    let h : has_constant_alpha mode p ≡ true = sym c.has_constant_alpha.ensures ∙ c.if-has_constant_alpha.true in
    ((c.requires.0.0, c.requires.1 (is_global mode p h)), constant_factors mode p h)
