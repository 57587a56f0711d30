use mathlib.Core.Path.{sym, ◌∙◌}
use Rattle.pixel.specs.declared.format.Format.TheVariants.{Argb8888, Rgb888, Rgb565}
use Rattle.ppm.specs.Words.{name_of, format_named}
use Rattle.ppm.proofs.Texts.{tested}
use Rattle.ppm.proofs.words.format_named.Goals as goal

pub returns-then-eq_ignore_ascii_case : goal.returns-then-eq_ignore_ascii_case
unfolding format_named
returns-then-eq_ignore_ascii_case c =
    rw (sym (tested c.args.text.now (name_of Argb8888) _ c.eq_ignore_ascii_case.ensures.test) ∙ c.if-eq_ignore_ascii_case.true)

pub returns-then-eq_ignore_ascii_case-2 : goal.returns-then-eq_ignore_ascii_case-2
unfolding format_named
returns-then-eq_ignore_ascii_case-2 c =
    let text = c.args.text.now in
    rw (
      sym (tested text (name_of Argb8888) _ c.eq_ignore_ascii_case.ensures.test) ∙ c.if-eq_ignore_ascii_case.false,
      sym (tested text (name_of Rgb888) _ c.eq_ignore_ascii_case-2.ensures.test) ∙ c.if-eq_ignore_ascii_case-2.true,
    )

pub returns-then-eq_ignore_ascii_case-3 : goal.returns-then-eq_ignore_ascii_case-3
unfolding format_named
returns-then-eq_ignore_ascii_case-3 c =
    let text = c.args.text.now in
    rw (
      sym (tested text (name_of Argb8888) _ c.eq_ignore_ascii_case.ensures.test) ∙ c.if-eq_ignore_ascii_case.false,
      sym (tested text (name_of Rgb888) _ c.eq_ignore_ascii_case-2.ensures.test) ∙ c.if-eq_ignore_ascii_case-2.false,
      sym (tested text (name_of Rgb565) _ c.eq_ignore_ascii_case-3.ensures.test) ∙ c.if-eq_ignore_ascii_case-3.true,
    )

pub returns : goal.returns
unfolding format_named
returns c =
    let text = c.args.text.now in
    rw (
      sym (tested text (name_of Argb8888) _ c.eq_ignore_ascii_case.ensures.test) ∙ c.if-eq_ignore_ascii_case.false,
      sym (tested text (name_of Rgb888) _ c.eq_ignore_ascii_case-2.ensures.test) ∙ c.if-eq_ignore_ascii_case-2.false,
      sym (tested text (name_of Rgb565) _ c.eq_ignore_ascii_case-3.ensures.test) ∙ c.if-eq_ignore_ascii_case-3.false,
    )
