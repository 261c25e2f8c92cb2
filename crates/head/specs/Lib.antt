pub mod Cases
pub mod Settings
pub mod Orders
pub mod Meaning
pub mod Values
pub mod Made
pub mod Work
pub mod Works
