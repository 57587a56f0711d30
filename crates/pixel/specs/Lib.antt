-- Formats, colours, blending.
pub mod Formats
pub mod Colours
pub mod Alpha
pub mod Blending
pub mod Rules
-- Colours that change by even steps.
pub mod Gradient
