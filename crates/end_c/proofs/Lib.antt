pub mod Logging
pub mod Calls
pub mod Exact
pub mod Counting
