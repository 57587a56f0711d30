-- Laws of a task drawn pixel by pixel.
-- what a pixel reads lies in memory
pub mod Inside
-- a row drawn pixel by pixel: no pixel before it changes what a pixel reads
pub mod PixelByPixel
