use Rattle.fetch_rows.proofs.strided.fetch_strided.Goals as goal

pub fetch_strided_pixels-requires : goal.fetch_strided_pixels-requires
fetch_strided_pixels-requires c =
    rw c.in-Argb8888.is at c.requires

pub returns-in-Argb8888 : goal.returns-in-Argb8888
returns-in-Argb8888 c = rw c.in-Argb8888.is c.fetch_strided_pixels.ensures

pub fetch_strided_pixels-requires-in-Rgb888 : goal.fetch_strided_pixels-requires-in-Rgb888
fetch_strided_pixels-requires-in-Rgb888 c =
    rw c.in-Rgb888.is at c.requires

pub returns-in-Rgb888 : goal.returns-in-Rgb888
returns-in-Rgb888 c = rw c.in-Rgb888.is c.fetch_strided_pixels-in-Rgb888.ensures

pub fetch_strided_pixels-requires-in-Rgb565 : goal.fetch_strided_pixels-requires-in-Rgb565
fetch_strided_pixels-requires-in-Rgb565 c =
    rw c.in-Rgb565.is at c.requires

pub returns-in-Rgb565 : goal.returns-in-Rgb565
returns-in-Rgb565 c = rw c.in-Rgb565.is c.fetch_strided_pixels-in-Rgb565.ensures
