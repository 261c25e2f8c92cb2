pub mod Ruled
pub mod Becoming
pub mod ByRow
pub mod Ordered
