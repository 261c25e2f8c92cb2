pub mod Axes
pub mod Spans
pub mod Drives
pub mod Moves
pub mod Lawful
pub mod Rigs
pub mod Punctual
mod Given
mod Once
mod Idle
