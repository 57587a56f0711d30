-- pixels of RGB565
mod Pixels
