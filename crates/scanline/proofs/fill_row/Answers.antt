use Rattle.scanline.proofs.fill_row.Goals as goal

pub fill_words-requires : goal.fill_words-requires
fill_words-requires c =
    rw c.in-Argb8888.is at c.requires

pub returns-in-Argb8888 : goal.returns-in-Argb8888
returns-in-Argb8888 c =
    rw (c.in-Argb8888.is, ← c.word_of.ensures) c.fill_words.ensures

pub fill_pixels-requires : goal.fill_pixels-requires
fill_pixels-requires c = rw c.in-Rgb888.is at c.requires

pub returns-in-Rgb888 : goal.returns-in-Rgb888
returns-in-Rgb888 c = rw c.in-Rgb888.is c.fill_pixels.ensures

pub fill_pixels-requires-in-Rgb565 : goal.fill_pixels-requires-in-Rgb565
fill_pixels-requires-in-Rgb565 c = rw c.in-Rgb565.is at c.requires

pub returns-in-Rgb565 : goal.returns-in-Rgb565
returns-in-Rgb565 c = rw c.in-Rgb565.is c.fill_pixels-in-Rgb565.ensures
