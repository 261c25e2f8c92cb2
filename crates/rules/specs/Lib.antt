pub mod Ring
pub mod Modes
pub mod Replies
pub mod Orders
