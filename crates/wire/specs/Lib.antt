pub mod Packets
pub mod Kept
pub mod States
pub mod Framing
pub mod Line
pub mod Theorems
