pub mod Packed
pub mod Names
pub mod Alone
pub mod Weighed
pub mod Full
