pub mod Asked
pub mod Calls
pub mod Logs
pub mod Sums
pub mod Played
