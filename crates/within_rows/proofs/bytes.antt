-- rows blended inside one slice
pub mod Within
-- by factors that do not go by alpha
pub mod Constant
