-- Premultiplied colours divided by their alpha.
pub mod Unpremultiply
pub mod Close
pub mod Prepared
