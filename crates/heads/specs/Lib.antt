pub mod Motion
pub mod Exact
pub mod Rigs
pub mod Heads
pub mod Punctual
pub mod Any
pub mod Geared
