pub mod Forms
pub mod Framed
pub mod Faulty
pub mod Sent
