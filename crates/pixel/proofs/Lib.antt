-- Laws of channels and stored pixels.
pub mod Channels
pub mod Stored
-- an ARGB8888 pixel keeps all of a colour
pub mod Kept
