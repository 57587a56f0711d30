use mathlib.Core.Path.{sym, ◌∙◌}
use Rattle.row_pixels.proofs.Straight.{straight}
use Rattle.fetch_rows.proofs.fetch_transformed.Goals as goal

pub fetch_contiguous_row-requires : goal.fetch_contiguous_row-requires
fetch_contiguous_row-requires c =
    let h = straight c.args.transform (sym c.is_identity_row.ensures ∙ c.if-is_identity_row.true) in
    (c.requires, h.0, h.1)
