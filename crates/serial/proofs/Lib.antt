pub mod Turned
pub mod Reading
pub mod Moving
pub mod Serving
pub mod Summing
pub mod Numbers
pub mod Owing
