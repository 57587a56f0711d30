-- What is promised of any call, of any batch, and of whole lists of calls.
pub mod BatchSemantics
pub mod ModelProperties
pub mod Engine
pub mod Ring
pub mod Demand1
pub mod Demand2
pub mod Demand3
pub mod Queue
pub mod EitherEngine
pub mod Order
pub mod WorkedExamples
