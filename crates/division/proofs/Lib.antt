-- Laws of division by 255.
pub mod Division
-- products of two bytes, and the nearest of them over 255
pub mod Products
