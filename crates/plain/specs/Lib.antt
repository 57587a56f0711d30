-- What the slow engine asks.
pub mod Pixel
